use Rattle.std.proofs.Common.{◌≡◌, ◌+◌, true, false, List, drop, map, Some, None, sym, ap, subst, ◌∙◌}
use Rattle.std.specs.Option.{option_or}
use Rattle.dav_path_core.specs.Segments.{segments}
use Rattle.dav_headers_core.specs.IfValues.{Located, located_list, conditions_of}
use Rattle.dav_guarded_core.specs.Step.{State}
use Rattle.dav_session_core.specs.Callers.{live}
use Rattle.dav_session_core.specs.Conditions.{ListsAre, conditions_hold}
use Rattle.dav_session_core.specs.Sessions as spec
use Rattle.dav_fields_core.specs.TaggedLists.{base_of, spoken_path, spread_from}
use Rattle.dav_session_core.proofs.ConditionLemmas.{drop_seen, goes_on, holds_here, none_left}
use Rattle.dav_session_core.proofs.Looking.{looks_none, looks_on, same_asked}
use Rattle.dav_methods_core.proofs.conditions.one_holds.Goals as goal

pub loop-list-init : goal.loop-list-init
loop-list-init g c = record {
  looks = looks_none g.R.Rng.stream c.args.session.now;
  last = None;
  speaks = ap (λ path. Some (segments path.bytes)) c.in_ok-copy_of.ensures;
  left = λ holds h. h;
}

pub returns-then-branch-clause-ok : goal.returns-then-branch-clause-ok
returns-then-branch-clause-ok g c =
    let who = spec.caller c.args.session.now in
    let start = spec.state g.R.Rng.stream c.args.session.now in
    let mid = spec.caller c.loop-list.session in
    let m = spec.state g.R.Rng.stream c.loop-list.session in
    let s = live who.now start in
    let base = base_of c.args.base.now c.args.here.now in
    let here = segments c.args.here.now.bytes in
    let at = spoken_path c.in_ok-at.at in
    let item = located_list c.list-item.result in
    let last = c.loop-list.invariant.last in
    let lists = c.args.lists.now in
    let i = c.loop-list.list-index in
    let speaks = c.in_ok-at.ensures.ok here last c.loop-list.invariant.speaks in
    let holds : conditions_hold s at item.conditions ≡ true =
    sym (same_asked (λ w (x : State). conditions_hold x at item.conditions) c.loop-list.invariant.looks)
    ∙ sym {b = conditions_hold (live mid.now m) at item.conditions} (c.in_ok-conditions_hold.ensures.ok ∙ ap (λ cs. conditions_hold (live mid.now m) at (conditions_of cs)) c.deref.ensures.value) ∙ c.if-branch.true in
    c.loop-list.invariant.left true (subst (λ (ls : List Located). ListsAre s base here (spread_from last ls) true)
    (sym (drop_seen located_list lists i c.list-item.result c.loop-list-test.true c.list-item.is))
    (holds_here s base here last item (map located_list (drop (i + 1) lists)) at speaks holds))

pub loop-list-preserved : goal.loop-list-preserved
loop-list-preserved g c =
    let who = spec.caller c.args.session.now in
    let start = spec.state g.R.Rng.stream c.args.session.now in
    let mid = spec.caller c.loop-list.session in
    let m = spec.state g.R.Rng.stream c.loop-list.session in
    let s = live who.now start in
    let base = base_of c.args.base.now c.args.here.now in
    let here = segments c.args.here.now.bytes in
    let at = spoken_path c.in_ok-at.at in
    let item = located_list c.list-item.result in
    let last = c.loop-list.invariant.last in
    let lists = c.args.lists.now in
    let i = c.loop-list.list-index in
    let speaks = c.in_ok-at.ensures.ok here last c.loop-list.invariant.speaks in
    let fails : conditions_hold s at item.conditions ≡ false =
    sym (same_asked (λ w (x : State). conditions_hold x at item.conditions) c.loop-list.invariant.looks)
    ∙ sym {b = conditions_hold (live mid.now m) at item.conditions} (c.in_ok-conditions_hold.ensures.ok ∙ ap (λ cs. conditions_hold (live mid.now m) at (conditions_of cs)) c.deref.ensures.value) ∙ c.if-branch.false in
    record {
      looks = looks_on c.loop-list.invariant.looks c.conditions_hold.ensures.looks;
      last = option_or item.tag last;
      speaks = speaks;
      left = λ holds h. c.loop-list.invariant.left holds (subst (λ (ls : List Located). ListsAre s base here (spread_from last ls) holds)
          (sym (drop_seen located_list lists i c.list-item.result c.loop-list-test.true c.list-item.is))
          (goes_on s base here last item (map located_list (drop (i + 1) lists)) at speaks fails holds h));
    }

pub returns-clause-ok : goal.returns-clause-ok
returns-clause-ok g c =
    c.loop-list.invariant.left false
    (none_left (live (spec.caller c.args.session.now).now (spec.state g.R.Rng.stream c.args.session.now)) (base_of c.args.base.now c.args.here.now)
    (segments c.args.here.now.bytes) c.loop-list.invariant.last located_list c.args.lists.now c.loop-list.list-index c.loop-list-test.false)

pub returns-in_err-copy_of-clause-looks : goal.returns-in_err-copy_of-clause-looks
returns-in_err-copy_of-clause-looks g c = looks_none g.R.Rng.stream c.args.session.now

pub returns-in_err-conditions_hold-clause-looks : goal.returns-in_err-conditions_hold-clause-looks
returns-in_err-conditions_hold-clause-looks g c = looks_on c.loop-list.invariant.looks c.conditions_hold.ensures.looks

pub returns-then-branch-clause-looks : goal.returns-then-branch-clause-looks
returns-then-branch-clause-looks g c = looks_on c.loop-list.invariant.looks c.conditions_hold.ensures.looks
