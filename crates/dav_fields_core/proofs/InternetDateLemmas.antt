-- A second has one text as RFC 3339 writes it.
use Rattle.std.proofs.Common.{◌≡◌, ℕ, false, List, [], ◌∷◌, ◌++◌, Some, sym, ap, ◌∙◌}
use Rattle.jiff_core.specs.declared.civil.date.Date.{Date}
use Rattle.jiff_core.specs.declared.civil.time.Time.{Time}
use Rattle.jiff_core.specs.Date.{epoch_day}
use Rattle.jiff_core.specs.Time.{time_nanos}
use Rattle.jiff_core.proofs.DateLemmas.{epoch_day_injective}
use Rattle.jiff_core.proofs.DateTimeLemmas.{civil_nanos_injective, time_nanos_injective}
use Rattle.jiff_fmt.specs.Text.{date_text, pad2, time_text, year_text, zulu_text}
use Rattle.dav_fields_core.specs.Dates.{IsInternetDate}

one_date : (a b : Date) → epoch_day a ≡ epoch_day b → date_text a ≡ date_text b
one_date a b e =
    let p = epoch_day_injective a b e in
    ap (λ year. year_text year ++ 45 ∷ [] ++ pad2 a.month ++ 45 ∷ [] ++ pad2 a.day) p.0
    ∙ ap (λ month. year_text b.year ++ 45 ∷ [] ++ pad2 month ++ 45 ∷ [] ++ pad2 a.day) p.1
    ∙ ap (λ day. year_text b.year ++ 45 ∷ [] ++ pad2 b.month ++ 45 ∷ [] ++ pad2 day) p.2

one_time : (a b : Time) → time_nanos a ≡ time_nanos b
    → time_text (Some 0) a ≡ time_text (Some 0) b
one_time a b e =
    let p = time_nanos_injective a b e in
    ap (λ hour. pad2 hour ++ 58 ∷ pad2 a.minute ++ 58 ∷ pad2 a.second ++ []) p.0
    ∙ ap (λ minute. pad2 b.hour ++ 58 ∷ pad2 minute ++ 58 ∷ pad2 a.second ++ []) p.1
    ∙ ap (λ second. pad2 b.hour ++ 58 ∷ pad2 b.minute ++ 58 ∷ pad2 second ++ []) p.2

pub internet_date_once : (seconds : ℕ) (a b : List ℕ) → IsInternetDate seconds a
    → IsInternetDate seconds b → a ≡ b
internet_date_once seconds a b h k =
    let p = civil_nanos_injective h.0 k.0 (h.1 ∙ sym k.1) in
    h.2 ∙ ap (λ day. (day ++ 84 ∷ time_text (Some 0) h.0.time) ++ zulu_text false)
    (one_date h.0.date k.0.date p.0)
    ∙ ap (λ time. (date_text k.0.date ++ 84 ∷ time) ++ zulu_text false)
    (one_time h.0.time k.0.time p.1) ∙ sym k.2
