-- What a line tells, by what the code has.
use Rattle.turn_fronts.specs.declared.lines.Entry.{Entry}
use Rattle.turn_fronts.specs.declared.lines.Told as code
use Rattle.turn_fronts.specs.declared.lines.Told.TheVariants as variant
use Rattle.turn_fronts.specs.LogLines.{LogEntry, Told, Request, Nothing, Connections}

abbrev pub told_of : code.Told → Told
told_of (variant.Request method target) = Request method.now target.now
told_of variant.Nothing = Nothing
told_of (variant.Connections count) = Connections count

abbrev pub log_entry_of : Entry → LogEntry
log_entry_of e = record {
  address = e.address.now;
  user = e.user.now;
  seconds = e.seconds;
  date = e.date.now;
  told = told_of e.told;
  status = e.status;
  bytes = e.bytes;
  took = e.took;
  referer = e.referer.now;
  agent = e.agent.now;
}
