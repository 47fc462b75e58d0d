-- The texts that describe a resource are visible: its URL, its type, its tag and its dates.
use Rattle.std.proofs.Common.{◌≡◌, refl, sym, subst, ℕ, suc, ◌/◌, ◌%◌, ◌<◌, arith, Bool, true, false, cond, ◌||◌, List, [], ◌∷◌, ◌++◌, Option, Some, None, codes}
use Rattle.std.specs.Prelude.{◌==◌, bytes_eq, decimal, map, ℤ, pos, negsuc}
use Rattle.std.specs.Char.{to_ascii_lowercase}
use Rattle.std.specs.List.{list_all}
use Rattle.std.proofs.lemmas.Bool.{and_parts}
use Rattle.jiff_core.specs.Calendar as calendar
use Rattle.jiff_core.specs.declared.civil.date.Date.{Date}
use Rattle.jiff_core.specs.declared.civil.time.Time.{Time}
use Rattle.jiff_fmt.specs.Text as printed
use Rattle.dav_path_core.specs.Fronts.{Path}
use Rattle.dav_path_core.specs.Url.{url}
use Rattle.dav_xml_core.specs.Scanning.{is_nil}
use Rattle.dav_fields_core.specs.ContentTypes.{TypeEntry, content_type, extension, other_type, table, type_in}
use Rattle.dav_fields_core.specs.FileTags.{file_tag, tag_text}
use Rattle.dav_documents_core.specs.KeptElements.{IsVisible}
use Rattle.dav_safe_methods_core.specs.PropertyAnswers.{place_url, segments_url}
use Rattle.dav_fields_core.specs.Dates.{IsHttpDate, IsInternetDate}
use Rattle.dav_documents_core.specs.RefusalBodies.{front}
use Rattle.dav_documents_core.proofs.VisibleTextLemmas.{AreVisible, all_joined, decimal_visible, joined, one_more, some_before, some_behind, url_visible}
use Rattle.dav_handler_core.proofs.DescriptionTexts.{slashed, tail, tail_visible, is_seen, seen, fixdate_seen, test_true, within}
use Rattle.dav_fields_core.proofs.DateTextLemmas.{days_few, pair}

-- ---- URLs

url_is : (prefix : List ℕ) (p : Path) (folder : Bool) → AreVisible (place_url prefix p folder)
unfolding tail
url_is prefix p folder =
    joined (url (front prefix) ++ segments_url p) (tail folder)
    (joined (url (front prefix)) (segments_url p) (url_visible (front prefix)) (all_joined (λ (s : List ℕ). codes "/" ++ url s) p slashed)) (tail_visible folder)

-- that of a folder, or of what stands in one
pub folder_url : (prefix : List ℕ) (p : Path) → IsVisible (place_url prefix p true)
folder_url prefix p = record {
  some = some_behind (url (front prefix) ++ segments_url p) (codes "/") refl;
  each = url_is prefix p true;
}

pub member_url : (prefix : List ℕ) (s : List ℕ) (p : Path) (folder : Bool) → IsVisible (place_url prefix (s ∷ p) folder)
member_url prefix s p folder = record {
  some = some_before (url (front prefix) ++ segments_url (s ∷ p)) (cond folder (codes "/") []) (some_behind (url (front prefix)) (segments_url (s ∷ p)) refl);
  each = url_is prefix (s ∷ p) folder;
}

-- ---- types

type_found : (entries : List TypeEntry) (text known : List ℕ) → list_all (λ e. is_seen e.1) entries ≡ true → type_in entries text ≡ Some known → IsVisible known
type_found [] text known h is = absurd (cc)
type_found (entry ∷ entries) text known h is =
    let p = and_parts (is_seen entry.1) (list_all (λ e. is_seen e.1) entries) h in
    by (bytes_eq (map to_ascii_lowercase text) (map to_ascii_lowercase entry.0)) p.0 (type_found entries text known p.1) is
  where
    by : (b : Bool) → is_seen entry.1 ≡ true → (type_in entries text ≡ Some known → IsVisible known) → cond b (Some entry.1) (type_in entries text) ≡ Some known → IsVisible known
    by true one others found = let same : entry.1 ≡ known = cc in subst IsVisible same (seen entry.1 one)
    by false one others found = others found

table_seen : list_all (λ (e : TypeEntry). is_seen e.1) table ≡ true
unfolding is_seen
table_seen = refl

other_seen : IsVisible other_type
other_seen = record { some = refl; each = refl }

pub type_visible : (name : List ℕ) → IsVisible (content_type name)
type_visible name = by (extension name)
  where
    known : (o : Option (List ℕ)) → ((text : List ℕ) → o ≡ Some text → IsVisible text) → IsVisible (elim o [ None ↦ other_type | Some text ↦ text ])
    known None h = other_seen
    known (Some text) h = h text refl

    by : (o : Option (List ℕ)) → IsVisible (elim o [ None ↦ other_type | Some text ↦ elim (type_in table text) [ None ↦ other_type | Some known ↦ known ] ])
    by None = other_seen
    by (Some text) = known (type_in table text) (λ found is. type_found table text found table_seen is)

-- ---- tags

pub tag_visible : (modified size : ℕ) → IsVisible (file_tag modified size)
tag_visible modified size =
    let m = decimal_visible modified in
    let n = decimal_visible size in
    record {
      some = refl;
      each = one_more 34 (tag_text modified size ++ 34 ∷ []) (omega arith) (omega arith)
          (joined (tag_text modified size) (34 ∷ []) (joined (decimal modified) (45 ∷ decimal size) m.each (one_more 45 (decimal size) (omega arith) (omega arith) n.each)) refl);
    }

-- ---- dates

pub http_date_visible : (seconds : ℕ) (text : List ℕ) → IsHttpDate seconds text → IsVisible text
http_date_visible seconds text h = subst IsVisible (sym h.shown) (fixdate_seen h.date)

pad_four : (n : ℕ) → n < 10_000 → AreVisible (printed.pad4 n)
pad_four n small = joined (printed.pad2 (n / 100)) (printed.pad2 (n % 100)) (pair (n / 100) [] (omega arith) refl) (pair (n % 100) [] (omega arith) refl)

year_seen : (year : ℤ) → calendar.IsYear year → AreVisible (printed.year_text year)
year_seen (pos n) h = pad_four n (omega (arith, within n 9999 (test_true _ h.1.le)))
year_seen (negsuc n) h = joined (codes "-00") (printed.pad4 (suc n)) refl (pad_four (suc n) (omega (arith, within n 9998 (test_true _ h.0.le))))

day_text_seen : (d : Date) → AreVisible (printed.date_text d)
day_text_seen d =
    let year = printed.year_text d.year ++ 45 ∷ [] in
    let month = year ++ printed.pad2 d.month in
    let day_is : d.day < 780 = omega (arith, d.day_in.1, days_few (d.month == 2) (calendar.is_leap_year d.year) ((d.month == 4) || (d.month == 6) || (d.month == 9) || (d.month == 11))) in
    let yeared = joined (printed.year_text d.year) (45 ∷ []) (year_seen d.year d.year_in) refl in
    let monthed = joined year (printed.pad2 d.month) yeared (pair d.month [] (omega (arith, d.month_in.1)) refl) in
    joined (month ++ 45 ∷ []) (printed.pad2 d.day) (joined month (45 ∷ []) monthed refl) (pair d.day [] day_is refl)

clock_seen : (t : Time) → AreVisible (printed.time_text (Some 0) t)
clock_seen t =
    let second = printed.pad2 t.second in
    let minute = printed.pad2 t.minute ++ 58 ∷ second in
    joined (printed.pad2 t.hour) (58 ∷ minute) (pair t.hour [] (omega (arith, t.hour_in)) refl)
    (one_more 58 minute (omega arith) (omega arith) (pair t.minute (58 ∷ second) (omega (arith, t.minute_in))
    (one_more 58 second (omega arith) (omega arith) (pair t.second [] (omega (arith, t.second_in)) refl))))

pub internet_date_visible : (seconds : ℕ) (text : List ℕ) → IsInternetDate seconds text → IsVisible text
internet_date_visible seconds text h =
    let d = h.0 in
    let whole : AreVisible (printed.datetime_text false 84 (Some 0) d ++ printed.zulu_text false) =
    joined (printed.datetime_text false 84 (Some 0) d) (printed.zulu_text false)
    (joined (printed.date_text d.date) _ (day_text_seen d.date) (one_more 84 (printed.time_text (Some 0) d.time) (omega arith) (omega arith) (clock_seen d.time))) refl in
    let some : is_nil (printed.datetime_text false 84 (Some 0) d ++ printed.zulu_text false) ≡ false = some_behind (printed.datetime_text false 84 (Some 0) d) (printed.zulu_text false) refl in
    subst IsVisible (sym h.2) (record { some = some; each = whole })
