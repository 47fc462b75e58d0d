use Rattle.std.proofs.Common.{sym, subst}
use Rattle.http_header.specs.FieldValue.{IsFieldValue}
use Rattle.dav_fields_core.proofs.DateTextLemmas.{date_shown, shown_held}
use Rattle.dav_fields_core.proofs.dates.date_bytes.Goals as goal

pub returns-clause-date : goal.returns-clause-date
returns-clause-date c = record { date = c.date_of.result; second = c.date_of.ensures; shown = c.to_bytes.ensures }

pub returns-clause-held : goal.returns-clause-held
returns-clause-held c = subst IsFieldValue (sym c.to_bytes.ensures) (shown_held _ (date_shown c.date_of.result))
