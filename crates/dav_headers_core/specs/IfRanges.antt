-- `If-Range` (RFC 9110 section 13.1.5).
use Rattle.std.specs.Prelude.{◌≡◌, ℕ, Bool, true, false, ◌==◌, List, Some}
use Rattle.std.specs.Str.{trim}
use Rattle.http_header.specs.FieldValue.{FieldValue}
use Rattle.httpdate.specs.Date.{IsDateText, date_text, unix_secs}
use Rattle.httpdate.specs.declared.date.HttpDate.{HttpDate}
use Rattle.dav_headers_core.specs.Values.{one_text}
use Rattle.dav_headers_core.specs.Tags.{is_tag, strong_eq}
use Rattle.dav_headers_core.specs.declared.davheaders.if_ranges.IfRange.{IfRange}
use Rattle.dav_headers_core.specs.declared.davheaders.if_ranges.IfRange.TheVariants.{ETag, Date}

-- The text shows a date in one of HTTP's three formats, as `httpdate` reads them (of the years 1970 to 9999), white space round
-- it aside; else it spells a tag.
abbrev pub TextSays : List ℕ → IfRange → Type 0
TextSays text (Date date) = IsDateText (trim text) date
TextSays text (ETag tag) = ((date : HttpDate) → ¬ (IsDateText (trim text) date)) × (is_tag text ≡ true) × (tag ≡ text)

-- the one value is a text that says so
abbrev pub ValuesSay : List FieldValue → IfRange → Type 0
ValuesSay values range = (text : List ℕ) × (one_text values ≡ Some text) × TextSays text range

-- what tells values apart: a tag's spelling, or a date's second
pub data Shown : Type 0 where
  ShownTag : List ℕ → Shown
  ShownSecond : ℕ → Shown

abbrev pub shown_of : IfRange → Shown
shown_of (ETag tag) = ShownTag tag
shown_of (Date date) = ShownSecond (unix_secs date)

-- the date as IMF-fixdate, or the spelling
abbrev pub if_range_text : IfRange → List ℕ
if_range_text (Date date) = date_text date
if_range_text (ETag tag) = tag

abbrev pub if_range_strong_eq : IfRange → IfRange → Bool
if_range_strong_eq (ETag tag) (ETag other) = strong_eq tag other
if_range_strong_eq (ETag tag) (Date other) = false
if_range_strong_eq (Date date) (ETag other) = false
if_range_strong_eq (Date date) (Date other) = unix_secs date == unix_secs other
