use Rattle.std.proofs.Common.{◌≡◌, ◌∙◌, ap, sym, ℕ, ◌+◌, ◌<◌, Bool, List, ◌∷◌, drop, get_or, length, map, refl, subst}
use Rattle.std.proofs.lemmas.List.{drop_all}
use Rattle.std.proofs.lemmas.Result.{err_from_is_err_and}
use Rattle.dav_path_core.specs.Segments.{segments}
use Rattle.dav_path_core.specs.Fronts.{Path}
use Rattle.dav_files_core.specs.Resources.{ResourceMap}
use Rattle.dav_guarded_core.specs.Step.{State}
use Rattle.dav_session_core.specs.Callers.{Caller, live}
use Rattle.dav_session_core.specs.Copying.{IsReady, copies_made}
use Rattle.dav_session_core.specs.Sessions as spec
use Rattle.dav_session_core.specs.declared.session.copying.Transfer.{Transfer}
use Rattle.dav_session_core.proofs.ConditionLemmas.{drop_seen}
use Rattle.dav_session_core.proofs.CopyMadeLemmas.{one_made}
use Rattle.dav_session_core.proofs.CopyingLemmas.{Copying, copying_begun, copying_ended, copying_partly, one_copied, one_refused}
use Rattle.dav_session_core.proofs.Looking.{acts_none, acts_on}
use Rattle.dav_session_core.proofs.session.Session.copy_all.Goals as goal

abbrev ends : Transfer → Path × Path
ends t = (segments t.from.bytes, segments t.to.bytes)

pub loop-transfer-init : goal.loop-transfer-init
loop-transfer-init g c =
    let who = spec.caller c.args.self.now in
    let start = spec.state g.R.Rng.stream c.args.self.now in
    record {
      made = refl;
      acts = acts_none g.R.Rng.stream c.args.self.now;
      copying = λ deep from to rests ready are. copying_begun who deep from to rests (live who.now start) ready start _ refl are;
    }

-- what is left begins with the next one
at_next : (who : Caller) (deep : Bool) (from to : Path) (rests : List Path) (s : State) (ready : IsReady s who deep from to rests) (t : State) (xs : List Transfer) (i : ℕ) (x : Transfer)
    → i < length xs → x ≡ get_or xs i x → Copying who deep from to rests s ready (map ends (drop i xs)) t
    → Copying who deep from to rests s ready (ends x ∷ map ends (drop (i + 1) xs)) t
at_next who deep from to rests s ready t xs i x lt is h = subst (λ left. Copying who deep from to rests s ready left t) (drop_seen ends xs i x lt is) h

made_next : (now : ℕ) (m : ResourceMap) (xs : List Transfer) (i : ℕ) (x : Transfer)
    → i < length xs → x ≡ get_or xs i x
    → copies_made now (ends x ∷ map ends (drop (i + 1) xs)) m
    ≡ copies_made now (map ends (drop i xs)) m
made_next now m xs i x lt is =
    ap (λ left. copies_made now left m) (sym (drop_seen ends xs i x lt is))

pub loop-transfer-preserved : goal.loop-transfer-preserved
loop-transfer-preserved g c =
    let who = spec.caller c.args.self.now in
    let start = spec.state g.R.Rng.stream c.args.self.now in
    let mid = spec.state g.R.Rng.stream c.loop-transfer.self in
    let after = spec.state g.R.Rng.stream c.copy_one.new.self in
    let x = c.transfer-item.result in
    let left = map ends (drop (c.loop-transfer.transfer-index + 1) c.args.transfers.now) in
    record {
      made = sym (subst (λ (w : Caller). copies_made w.now (ends x ∷ left) mid.map
          ≡ copies_made w.now left after.map) c.loop-transfer.invariant.acts.who
          (one_made (spec.caller c.loop-transfer.self) mid after (segments x.from.bytes)
          (segments x.to.bytes) left c.in_ok-copy_one.ensures.ok))
          ∙ made_next who.now mid.map c.args.transfers.now c.loop-transfer.transfer-index x
          c.loop-transfer-test.true c.transfer-item.is ∙ c.loop-transfer.invariant.made;
      acts = acts_on c.loop-transfer.invariant.acts c.copy_one.ensures.acts;
      copying = λ deep from to rests ready are.
          one_copied who deep from to rests (live who.now start) ready (spec.caller c.loop-transfer.self) mid after (segments x.from.bytes) (segments x.to.bytes) _
          c.loop-transfer.invariant.acts.who
          (at_next who deep from to rests (live who.now start) ready mid c.args.transfers.now c.loop-transfer.transfer-index x c.loop-transfer-test.true c.transfer-item.is
          (c.loop-transfer.invariant.copying deep from to rests ready are))
          c.in_ok-copy_one.ensures.ok;
    }

pub returns-in_err-copy_one-clause-begun : goal.returns-in_err-copy_one-clause-begun
returns-in_err-copy_one-clause-begun g c = λ deep from to rests ready are.
    let q = err_from_is_err_and c.from_residual.result c.from_residual.ensures.1 in
    let who = spec.caller c.args.self.now in
    let start = spec.state g.R.Rng.stream c.args.self.now in
    let mid = spec.state g.R.Rng.stream c.loop-transfer.self in
    let after = spec.state g.R.Rng.stream c.copy_one.new.self in
    let x = c.transfer-item.result in
    let next = at_next who deep from to rests (live who.now start) ready mid c.args.transfers.now c.loop-transfer.transfer-index x c.loop-transfer-test.true c.transfer-item.is
    (c.loop-transfer.invariant.copying deep from to rests ready are) in
    rw (q.1) (copying_partly who deep from to rests (live who.now start) ready _ after
    (one_refused who deep from to rests (live who.now start) ready (spec.caller c.loop-transfer.self) mid after (segments x.from.bytes) (segments x.to.bytes) _
    c.loop-transfer.invariant.acts.who next c.in_err-copy_one.field-0.0 c.in_err-copy_one.ensures.err).0)

pub returns-in_err-copy_one-clause-err : goal.returns-in_err-copy_one-clause-err
returns-in_err-copy_one-clause-err g c = λ deep from to rests ready are.
    let q = err_from_is_err_and c.from_residual.result c.from_residual.ensures.1 in
    let who = spec.caller c.args.self.now in
    let start = spec.state g.R.Rng.stream c.args.self.now in
    let mid = spec.state g.R.Rng.stream c.loop-transfer.self in
    let after = spec.state g.R.Rng.stream c.copy_one.new.self in
    let x = c.transfer-item.result in
    let next = at_next who deep from to rests (live who.now start) ready mid c.args.transfers.now c.loop-transfer.transfer-index x c.loop-transfer-test.true c.transfer-item.is
    (c.loop-transfer.invariant.copying deep from to rests ready are) in
    rw (q.1, q.2) (one_refused who deep from to rests (live who.now start) ready (spec.caller c.loop-transfer.self) mid after (segments x.from.bytes) (segments x.to.bytes) _
    c.loop-transfer.invariant.acts.who next c.in_err-copy_one.field-0.0 c.in_err-copy_one.ensures.err).1

pub returns-clause-copied : goal.returns-clause-copied
returns-clause-copied g c = λ deep from to rests ready are.
    let who = spec.caller c.args.self.now in
    let s = live who.now (spec.state g.R.Rng.stream c.args.self.now) in
    let last = spec.state g.R.Rng.stream c.loop-transfer.self in
    copying_ended who deep from to rests s ready last
    (subst (λ xs. Copying who deep from to rests s ready (map ends xs) last) (drop_all c.loop-transfer.transfer-index c.args.transfers.now c.loop-transfer-test.false)
    (c.loop-transfer.invariant.copying deep from to rests ready are))

pub returns-clause-made : goal.returns-clause-made
returns-clause-made g c =
    let who = spec.caller c.args.self.now in
    let last = spec.state g.R.Rng.stream c.loop-transfer.self in
    sym c.loop-transfer.invariant.made
    ∙ ap (λ xs. copies_made who.now (map ends xs) last.map)
    (drop_all c.loop-transfer.transfer-index c.args.transfers.now c.loop-transfer-test.false)
