use Rattle.std.proofs.Common.{Ok, subst, sym}
use Rattle.dav_path_core.specs.PathText.{PathText}
use Rattle.dav_path_core.specs.Segments.{segments}
use Rattle.dav_guarded_core.specs.Requests.{Command}
use Rattle.dav_guarded_core.specs.Served.{refusal_of, reply_of}
use Rattle.dav_guarded_core.specs.Step.{Step}
use Rattle.dav_faults_core.specs.declared.faults.Fault.{Fault}
use Rattle.dav_session_core.specs.Callers.{asking}
use Rattle.dav_session_core.specs.Copying.{NotCopied}
use Rattle.dav_session_core.specs.Sessions as spec
use Rattle.dav_session_core.proofs.AskedLemmas.{not_copied}
use Rattle.dav_session_core.proofs.session.Session.copy_one.Goals as goal

pub returns-in-Ok-clause-ok : goal.returns-in-Ok-clause-ok
returns-in-Ok-clause-ok g c =
    let who = spec.caller c.args.self.now in
    let s = spec.state g.R.Rng.stream c.args.self.now in
    let after = spec.state g.R.Rng.stream c.ask.new.self in
    let reply = reply_of c.in-Ok.field-0 in
    let from_is = subst (λ (p : PathText). Step s (asking who (Command.Copy (segments p.bytes) (segments c.in_ok-to.to.bytes))) (Ok reply) after) c.in_ok-from.ensures c.in-Ok.ensures.asked in
    (reply, subst (λ (p : PathText). Step s (asking who (Command.Copy (segments c.args.transfer.now.from.bytes) (segments p.bytes))) (Ok reply) after) c.in_ok-to.ensures from_is)

pub returns-in-Err-clause-err : goal.returns-in-Err-clause-err
returns-in-Err-clause-err g c =
    let who = spec.caller c.args.self.now in
    let s = spec.state g.R.Rng.stream c.args.self.now in
    let after = spec.state g.R.Rng.stream c.ask.new.self in
    let from = segments c.args.transfer.now.from.bytes in
    let told = not_copied who s after (segments c.in_ok-from.from.bytes) (segments c.in_ok-to.to.bytes) (refusal_of c.in-Err.refusal) c.in-Err.ensures.asked in
    let shown = subst (λ (f : Fault). NotCopied who s (segments c.in_ok-from.from.bytes) (segments c.in_ok-to.to.bytes) f after) (sym c.refused.ensures) told in
    subst (λ (p : PathText). NotCopied who s from (segments p.bytes) c.refused.result after) c.in_ok-to.ensures
    (subst (λ (p : PathText). NotCopied who s (segments p.bytes) (segments c.in_ok-to.to.bytes) c.refused.result after) c.in_ok-from.ensures shown)
