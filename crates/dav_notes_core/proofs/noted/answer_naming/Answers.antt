use Rattle.std.proofs.Common.{◌∙◌, ap, string_bytes}
use Rattle.dav_guarded_core.specs.Served.{answer_of, command_of, request_of}
use Rattle.dav_notes_core.specs.Asking.{Caller, also_naming, asker_of, asking, sender_of}
use Rattle.dav_notes_core.proofs.NotedLemmas.{as_asked}
use Rattle.dav_notes_core.proofs.noted.answer_naming.Goals as goal

pub returns-in-Ok-clause-step : goal.returns-in-Ok-clause-step
returns-in-Ok-clause-step c =
    let command = command_of c.args.command in
    as_asked (request_of c.swap_asker.new.request) (asking (also_naming (sender_of c.args.who.now) (string_bytes c.args.token)) command) (answer_of c.apply_given-answer.result) c.args.stores.now
    c.apply_given-answer.new.stores c.args.next (c.swap_asker.ensures.request ∙ ap (asking (sender_of c.add_token.new.who)) c.unasked-request.ensures.command ∙ ap (λ (w : Caller). asking w command) c.in-Ok.ensures.ok) c.apply_given-answer.ensures.answered

pub returns-in-Ok-clause-who : goal.returns-in-Ok-clause-who
returns-in-Ok-clause-who c =
    c.drop_token.ensures (sender_of c.args.who.now) (string_bytes c.args.token) (c.swap_asker-in-Ok.ensures.who ∙ ap asker_of (c.swap_asker.ensures.request ∙ ap (asking (sender_of c.add_token.new.who)) c.unasked-request.ensures.command) ∙ c.in-Ok.ensures.ok)
