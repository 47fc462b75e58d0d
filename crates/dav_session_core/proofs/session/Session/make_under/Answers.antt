use Rattle.std.proofs.Common.{◌≡◌, ◌⊎◌, false, Ok, Err, string_bytes, sym, subst}
use Rattle.dav_path_core.specs.Segments.{segments}
use Rattle.dav_guarded_core.specs.Requests.{Command, Refusal}
use Rattle.dav_guarded_core.specs.Served.{answer_of, refusal_of, reply_of}
use Rattle.dav_faults_core.specs.declared.faults.Fault.{Fault}
use Rattle.dav_faults_core.specs.declared.faults.Fault.TheVariants as fault
use Rattle.dav_session_core.specs.Callers.{AskedNaming, live}
use Rattle.dav_session_core.specs.Granting.{PutsUnder}
use Rattle.dav_session_core.specs.Sessions as spec
use Rattle.dav_session_core.specs.StoreRefusals.{put_fault}
use Rattle.dav_session_core.proofs.AskedLemmas.{named_live, named_run, not_made_under}
use Rattle.dav_session_core.proofs.session.Session.make_under.Goals as goal

pub returns-in-Ok-clause-ok : goal.returns-in-Ok-clause-ok
returns-in-Ok-clause-ok g c =
    let who = spec.caller c.args.self.now in
    let s = spec.state g.R.Rng.stream c.args.self.now in
    let after = spec.state g.R.Rng.stream c.ask_naming.new.self in
    let p = segments c.args.path.bytes in
    let token = string_bytes c.args.token in
    let reply = reply_of c.in-Ok.field-0 in
    (reply, subst (λ bytes. AskedNaming s who token (Command.Put p bytes) (Ok reply) after) c.new-bytes.ensures c.in-Ok.ensures.asked)

pub returns-in-Ok-clause-ran : goal.returns-in-Ok-clause-ran
returns-in-Ok-clause-ran g c = record {
  run = named_run (spec.caller c.args.self.now) (spec.state g.R.Rng.stream c.args.self.now) (spec.state g.R.Rng.stream c.ask_naming.new.self) (string_bytes c.args.token)
      (Command.Put (segments c.args.path.bytes) c.new-bytes.result) (answer_of c.ask_naming.result) c.ask_naming.ensures.asked;
  who = c.ask_naming.ensures.caller;
  noting = c.ask_naming.ensures.noting;
}

pub returns-in-Err-clause-err : goal.returns-in-Err-clause-err
returns-in-Err-clause-err g c =
    let who = spec.caller c.args.self.now in
    let s = spec.state g.R.Rng.stream c.args.self.now in
    let after = spec.state g.R.Rng.stream c.ask_naming.new.self in
    let p = segments c.args.path.bytes in
    let token = string_bytes c.args.token in
    let e = refusal_of c.in-Err.refusal in
    subst (λ (f : Fault). (f ≡ fault.InsufficientStorage) ⊎ ((r : Refusal) × (f ≡ put_fault false r) × PutsUnder (live who.now s) who p token (Err r) after)) (sym c.refused.ensures)
    (not_made_under who s after p token e
    (subst (λ bytes. AskedNaming s who token (Command.Put p bytes) (Err e) after) c.new-bytes.ensures c.in-Err.ensures.asked))

pub returns-in-Err-clause-refused : goal.returns-in-Err-clause-refused
returns-in-Err-clause-refused g c =
    named_live (spec.caller c.args.self.now) (spec.state g.R.Rng.stream c.args.self.now) (spec.state g.R.Rng.stream c.ask_naming.new.self) (string_bytes c.args.token)
    (Command.Put (segments c.args.path.bytes) c.new-bytes.result) (refusal_of c.in-Err.refusal) c.in-Err.ensures.asked

pub returns-in-Err-clause-ran : goal.returns-in-Err-clause-ran
returns-in-Err-clause-ran g c = record {
  run = named_run (spec.caller c.args.self.now) (spec.state g.R.Rng.stream c.args.self.now) (spec.state g.R.Rng.stream c.ask_naming.new.self) (string_bytes c.args.token)
      (Command.Put (segments c.args.path.bytes) c.new-bytes.result) (answer_of c.ask_naming.result) c.ask_naming.ensures.asked;
  who = c.ask_naming.ensures.caller;
  noting = c.ask_naming.ensures.noting;
}
