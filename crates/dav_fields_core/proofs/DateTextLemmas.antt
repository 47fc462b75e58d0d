-- That the text of a date has visible bytes and spaces alone, so that a field and a document can hold it.
use Rattle.std.proofs.Common.{◌≡◌, refl, sym, ap, ◌∙◌, ℕ, zero, suc, ◌+◌, ◌/◌, ◌%◌, ◌-◌, ◌<◌, ◌≤◌, arith, Bool, true, false, cond, ◌&&◌, ◌||◌, List, [], ◌∷◌, ◌++◌, codes}
use Rattle.std.specs.Prelude.{◌==◌, nat_le, slice_index_or}
use Rattle.std.specs.List.{AllByRecursion, list_all}
use Rattle.std.proofs.lemmas.Bool.{and_parts}
use Rattle.std.proofs.lemmas.Bool.Decides.{nat_tests}
use Rattle.std.proofs.lemmas.List.Folds.{list_all-append}
use Rattle.std.proofs.lemmas.List.Sums.{AllPass-from_list_all}
use Rattle.http_header.specs.FieldValue.{IsFieldValue}
use Rattle.http_header.specs.Token.{is_value_byte}
use Rattle.httpdate.specs.declared.date.HttpDate.{HttpDate}
use Rattle.httpdate.specs.declared.parts.Parts.{Parts}
use Rattle.httpdate.specs.Calendar.{is_leap_year}
use Rattle.httpdate.specs.Date.{date_text}
use Rattle.httpdate.proofs.Theorems.{unix_secs_injective}
use Rattle.dav_fields_core.specs.Dates.{IsHttpDate}
use Rattle.httpdate.specs.Text.{day_name, four_digits, imf_fixdate, month_name, time_of_day, two_digits}

-- a visible byte of ASCII, or a space
abbrev shown : ℕ → Bool
shown b = nat_le 32 b && nat_le b 126

abbrev pub AreShown : List ℕ → Type 0
AreShown text = list_all shown text ≡ true

shown_between : (b : ℕ) → 32 ≤ b → b ≤ 126 → shown b ≡ true
shown_between b low high = grind (arith, nat_tests)

one_more : (b : ℕ) (text : List ℕ) → 32 ≤ b → b ≤ 126 → AreShown text → AreShown (b ∷ text)
one_more b text low high h = rw (shown_between b low high, h) refl

joined : (before behind : List ℕ) → AreShown before → AreShown behind → AreShown (before ++ behind)
joined before behind h k = list_all-append shown before behind ∙ rw (h, k) refl

indexed : (texts : List (List ℕ)) (i : ℕ) → AllByRecursion AreShown texts → AreShown (slice_index_or texts i [])
indexed [] i h = refl
indexed (text ∷ texts) zero h = h.0
indexed (text ∷ texts) (suc i) h = indexed texts i h.1

-- ---- numbers and names

pub pair : (n : ℕ) (text : List ℕ) → n < 780 → AreShown text → AreShown ((48 + n / 10) ∷ (48 + n % 10) ∷ text)
pair n text small h =
    one_more (48 + n / 10) ((48 + n % 10) ∷ text) (omega arith) (omega arith) (one_more (48 + n % 10) text (omega arith) (omega arith) h)

two : (n : ℕ) → n < 780 → AreShown (two_digits n)
two n small = pair n [] small refl

four : (n : ℕ) → n < 10_000 → AreShown (four_digits n)
four n small = joined (two_digits (n / 100)) (two_digits (n % 100)) (two (n / 100) (omega arith)) (two (n % 100) (omega arith))

day_shown : (day : ℕ) → AreShown (day_name day)
day_shown day =
    indexed (codes "Mon" ∷ codes "Tue" ∷ codes "Wed" ∷ codes "Thu" ∷ codes "Fri" ∷ codes "Sat" ∷ codes "Sun" ∷ []) (day - 1) (refl, (refl, (refl, (refl, (refl, (refl, (refl, tt)))))))

month_shown : (month : ℕ) → AreShown (month_name month)
month_shown month =
    indexed
    (codes "Jan" ∷ codes "Feb" ∷ codes "Mar" ∷ codes "Apr" ∷ codes "May" ∷ codes "Jun" ∷ codes "Jul" ∷ codes "Aug" ∷ codes "Sep" ∷ codes "Oct" ∷ codes "Nov" ∷ codes "Dec" ∷ [])
    (month - 1) (refl, (refl, (refl, (refl, (refl, (refl, (refl, (refl, (refl, (refl, (refl, (refl, tt))))))))))))

pub days_few : (february leap short : Bool) → cond february (cond leap 29 28) (cond short 30 31) ≤ 31
days_few true true short = omega arith
days_few true false short = omega arith
days_few false leap true = omega arith
days_few false leap false = omega arith

-- ---- a date

time_shown : (p : Parts) → p.hour < 24 → p.min < 60 → p.sec < 60 → AreShown (time_of_day p)
time_shown p hour min sec =
    let h = two_digits p.hour ++ codes ":" in
    let m = h ++ two_digits p.min in
    joined (m ++ codes ":") (two_digits p.sec)
    (joined m (codes ":") (joined h (two_digits p.min) (joined (two_digits p.hour) (codes ":") (two p.hour (omega (arith, hour))) refl) (two p.min (omega (arith, min)))) refl)
    (two p.sec (omega (arith, sec)))

pub date_shown : (d : HttpDate) → AreShown (date_text d)
date_shown d =
    let p = d.parts in
    let name = day_name p.wday ++ codes ", " in
    let day = name ++ two_digits p.day in
    let month = (day ++ codes " ") ++ month_name p.mon in
    let year = (month ++ codes " ") ++ four_digits p.year in
    let time = (year ++ codes " ") ++ time_of_day p in
    let day_is : p.day < 780 = omega (arith, d.civil.2.1, days_few (p.mon == 2) (is_leap_year p.year) ((p.mon == 4) || (p.mon == 6) || (p.mon == 9) || (p.mon == 11))) in
    let named = joined (day_name p.wday) (codes ", ") (day_shown p.wday) refl in
    let dayed = joined name (two_digits p.day) named (two p.day day_is) in
    let monthed = joined (day ++ codes " ") (month_name p.mon) (joined day (codes " ") dayed refl) (month_shown p.mon) in
    let yeared = joined (month ++ codes " ") (four_digits p.year) (joined month (codes " ") monthed refl) (four p.year (omega (arith, d.civil.0.1))) in
    let timed = joined (year ++ codes " ") (time_of_day p) (joined year (codes " ") yeared refl) (time_shown p d.time.0 d.time.1 d.time.2) in
    joined time (codes " GMT") timed refl

-- ---- what a field can hold

value_byte : (b : ℕ) → shown b ≡ true → is_value_byte b ≡ true
value_byte b h = grind (arith, nat_tests)

all_held : (text : List ℕ) → AreShown text → list_all is_value_byte text ≡ true
all_held [] h = refl
all_held (b ∷ text) h = let p = and_parts (shown b) (list_all shown text) h in rw (value_byte b p.0, all_held text p.1) refl

pub shown_held : (text : List ℕ) → AreShown text → IsFieldValue text
shown_held text h = AllPass-from_list_all is_value_byte text (all_held text h)

-- ---- a second has one text

pub date_once : (second : ℕ) (a b : List ℕ) → IsHttpDate second a → IsHttpDate second b → a ≡ b
date_once second a b h k = h.shown ∙ ap imf_fixdate (unix_secs_injective h.date k.date (h.second ∙ sym k.second)) ∙ sym k.shown
