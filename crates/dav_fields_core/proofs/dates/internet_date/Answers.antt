use Rattle.std.proofs.Common.{ℕ, Bool, ◌++◌, Option, Some, ap, ◌∙◌}
use Rattle.std.proofs.lemmas.Result.{IfOk-weaker}
use Rattle.jiff_fmt.specs.Text.{datetime_text, zulu_text}
use Rattle.dav_fields_core.proofs.dates.internet_date.Goals as goal

pub returns : goal.returns
returns c =
    let shown = c.timestamp_text-text.ensures in
    let plain = ap (λ (o : Bool × ℕ × Option ℕ). datetime_text o.0 o.1 o.2 shown.0 ++ zulu_text o.0) (c.precision.ensures ∙ ap (λ (o : Bool × ℕ × Option ℕ). (o.0, o.1, Some 0)) c.new.ensures) in
    IfOk-weaker c.from_str.result _ _ (λ text written. (shown.0, shown.1 ∙ c.timestamp_of.ensures, written ∙ c.as_str.ensures.value ∙ shown.2 ∙ plain)) c.from_str.ensures.ok
