use Rattle.std.proofs.lemmas.Result.{IfOk-weaker}
use Rattle.dav_fields_core.proofs.dates.http_date.Goals as goal

pub returns : goal.returns
returns c = IfOk-weaker c.fmt_http_date.result _ _ (λ text written. record { date = c.date_of.result; second = c.date_of.ensures; shown = written }) c.fmt_http_date.ensures
