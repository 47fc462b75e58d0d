-- The texts of dates: as HTTP writes them, and as RFC 3339 does.
use Rattle.std.specs.Prelude.{◌≡◌, ℕ, ◌*◌, pos, false, List, ◌++◌, Some}
use Rattle.httpdate.specs.Date.{date_text, unix_secs}
use Rattle.httpdate.specs.declared.date.HttpDate.{HttpDate}
use Rattle.jiff_core.specs.declared.civil.datetime.DateTime.{DateTime}
use Rattle.jiff_core.specs.DateTime.{civil_nanos}
use Rattle.jiff_fmt.specs.Text.{datetime_text, zulu_text}

-- as HTTP writes a second since 1970 (RFC 9110 section 5.6.7)
pub record IsHttpDate (seconds : ℕ) (text : List ℕ) : Type 0 where
  pub date : HttpDate
  pub second : unix_secs date ≡ seconds
  pub shown : text ≡ date_text date

-- as RFC 3339 does, in UTC
abbrev pub IsInternetDate : ℕ → List ℕ → Type 0
IsInternetDate seconds text =
    (date : DateTime) × (civil_nanos date ≡ pos (seconds * 1_000_000_000)) × (text ≡ datetime_text false 84 (Some 0) date ++ zulu_text false)
