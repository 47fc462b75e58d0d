-- What a text says of an `If-Range`, once.
use Rattle.std.proofs.Common.{◌≡◌, refl, ap, ℕ, List, Bool, true, false}
use Rattle.std.specs.Str.{trim}
use Rattle.httpdate.specs.Date.{IsDateText}
use Rattle.httpdate.specs.Valid.{parts_secs}
use Rattle.httpdate.specs.declared.date.HttpDate.{HttpDate}
use Rattle.httpdate.proofs.Theorems.{IsDateText_unique}
use Rattle.dav_headers_core.specs.declared.davheaders.errors.HeaderError.{HeaderError}
use Rattle.dav_headers_core.specs.declared.davheaders.errors.HeaderError.TheVariants.{Invalid, OutOfMemory}
use Rattle.dav_headers_core.specs.HeaderGives.{RefusesFirst}
use Rattle.dav_headers_core.specs.Tags.{is_tag, tag_in}
use Rattle.dav_headers_core.specs.Optional.{when}
use Rattle.std.specs.Prelude.{IsSome}
use Rattle.dav_headers_core.specs.IfRanges.{TextSays, shown_of}
use Rattle.dav_headers_core.specs.declared.davheaders.if_ranges.IfRange.{IfRange}
use Rattle.dav_headers_core.specs.declared.davheaders.if_ranges.IfRange.TheVariants.{ETag, Date}

pub one_date : (text : List ℕ) (date : HttpDate) (range : IfRange) → IsDateText (trim text) date → TextSays text range → shown_of (Date date) ≡ shown_of range
one_date text date (Date other) h says = let same = ap parts_secs (IsDateText_unique (trim text) date other h says) in rw same refl
one_date text date (ETag tag) h says = absurd (says.0 date h)

passes : (test : Bool) (text : List ℕ) → IsSome (when test text) → test ≡ true
passes true text h = refl
passes false text h = absurd cc

-- a text that shows no date, and is refused for memory alone, says that it is a tag
pub refused_tag : (text : List ℕ) (e : HeaderError) → RefusesFirst e (tag_in text) → e ≡ OutOfMemory → ((date : HttpDate) → ¬ (IsDateText (trim text) date)) → (range : IfRange) × TextSays text range
refused_tag text OutOfMemory refused memory no_date = (ETag text, (no_date, passes (is_tag text) text refused, refl))
refused_tag text Invalid refused memory no_date = absurd cc
