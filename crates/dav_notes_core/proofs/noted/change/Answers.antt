use Rattle.dav_guarded_core.specs.Served.{command_of, request_of}
use Rattle.dav_notes_core.specs.Asking.{asking, sender_of}
use Rattle.dav_notes_core.proofs.NotedLemmas.{as_asked}
use Rattle.dav_notes_core.proofs.noted.change.Goals as goal

pub returns-in-Ok-clause-step : goal.returns-in-Ok-clause-step
returns-in-Ok-clause-step c =
    as_asked (request_of c.request_by.result) (asking (sender_of c.args.asker) (command_of c.args.command)) _ c.args.stores.now c.apply_given.new.stores c.args.next
    c.request_by.ensures c.in-Ok.ensures.answered

pub returns-in-Err-clause-step : goal.returns-in-Err-clause-step
returns-in-Err-clause-step c =
    as_asked (request_of c.request_by.result) (asking (sender_of c.args.asker) (command_of c.args.command)) _ c.args.stores.now c.apply_given.new.stores c.args.next
    c.request_by.ensures c.in-Err.ensures.answered
