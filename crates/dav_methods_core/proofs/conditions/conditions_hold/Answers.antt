use Rattle.std.proofs.Common.{◌≡◌, ◌+◌, Bool, true, false, ◌&&◌, drop, refl, sym, ap, ◌∙◌}
use Rattle.std.proofs.lemmas.List.{drop_all}
use Rattle.dav_headers_core.specs.IfValues.{condition_of, conditions_of}
use Rattle.dav_guarded_core.specs.Step.{State}
use Rattle.dav_session_core.specs.Callers.{live}
use Rattle.dav_session_core.specs.Conditions.{condition_holds, conditions_hold}
use Rattle.dav_session_core.specs.Sessions as spec
use Rattle.dav_fields_core.specs.TaggedLists.{spoken_path}
use Rattle.dav_session_core.proofs.ConditionLemmas.{drop_seen, goes_on_true}
use Rattle.dav_session_core.proofs.Looking.{looks_none, looks_on, same_asked}
use Rattle.dav_methods_core.proofs.conditions.conditions_hold.Goals as goal

-- one that doesn't hold decides for all
stops_false : (first rest left whole : Bool) → left ≡ (first && rest) → first ≡ false → left ≡ whole → false ≡ whole
stops_false first rest left whole split fails so_far = sym (split ∙ ap (λ b. b && rest) fails) ∙ so_far

pub loop-condition-init : goal.loop-condition-init
loop-condition-init g c =
    record { looks = looks_none g.R.Rng.stream c.args.session.now; left = refl }

pub loop-condition-preserved : goal.loop-condition-preserved
loop-condition-preserved g c =
    let who = spec.caller c.args.session.now in
    let start = spec.state g.R.Rng.stream c.args.session.now in
    let mid = spec.caller c.loop-condition.session in
    let m = spec.state g.R.Rng.stream c.loop-condition.session in
    let s = live who.now start in
    let at = spoken_path c.args.at.now in
    let item = condition_of c.condition-item.result in
    let conditions = c.args.conditions.now in
    let i = c.loop-condition.condition-index in
    let holds : condition_holds s at item ≡ true =
    sym (same_asked (λ w (x : State). condition_holds x at item) c.loop-condition.invariant.looks) ∙ sym {b = condition_holds (live mid.now m) at item} c.in_ok-condition_holds.ensures.ok ∙ c.if-not-branch.false in
    record {
      looks = looks_on c.loop-condition.invariant.looks c.condition_holds.ensures.looks;
      left = goes_on_true (condition_holds s at item) (conditions_hold s at (conditions_of (drop i conditions)))
          (conditions_hold s at (conditions_of (drop (i + 1) conditions))) (conditions_hold s at (conditions_of conditions))
          (ap (conditions_hold s at) (drop_seen condition_of conditions i c.condition-item.result c.loop-condition-test.true c.condition-item.is))
          holds c.loop-condition.invariant.left;
    }

pub returns-in_err-condition_holds-clause-looks : goal.returns-in_err-condition_holds-clause-looks
returns-in_err-condition_holds-clause-looks g c = looks_on c.loop-condition.invariant.looks c.condition_holds.ensures.looks

pub returns-then-not-branch-clause-looks : goal.returns-then-not-branch-clause-looks
returns-then-not-branch-clause-looks g c = looks_on c.loop-condition.invariant.looks c.condition_holds.ensures.looks

pub returns-then-not-branch-clause-ok : goal.returns-then-not-branch-clause-ok
returns-then-not-branch-clause-ok g c =
    let who = spec.caller c.args.session.now in
    let mid = spec.caller c.loop-condition.session in
    let m = spec.state g.R.Rng.stream c.loop-condition.session in
    let s = live who.now (spec.state g.R.Rng.stream c.args.session.now) in
    let at = spoken_path c.args.at.now in
    let item = condition_of c.condition-item.result in
    let conditions = c.args.conditions.now in
    let i = c.loop-condition.condition-index in
    let fails : condition_holds s at item ≡ false =
    sym (same_asked (λ w (x : State). condition_holds x at item) c.loop-condition.invariant.looks) ∙ sym {b = condition_holds (live mid.now m) at item} c.in_ok-condition_holds.ensures.ok ∙ c.if-not-branch.true in
    stops_false (condition_holds s at item) (conditions_hold s at (conditions_of (drop (i + 1) conditions))) (conditions_hold s at (conditions_of (drop i conditions)))
    (conditions_hold s at (conditions_of conditions))
    (ap (conditions_hold s at) (drop_seen condition_of conditions i c.condition-item.result c.loop-condition-test.true c.condition-item.is)) fails c.loop-condition.invariant.left

pub returns-clause-ok : goal.returns-clause-ok
returns-clause-ok g c =
    let s = spec.live_of g.R.Rng.stream c.args.session.now in
    let at = spoken_path c.args.at.now in
    ap (λ xs. conditions_hold s at (conditions_of xs)) (sym (drop_all c.loop-condition.condition-index c.args.conditions.now c.loop-condition-test.false))
    ∙ c.loop-condition.invariant.left
