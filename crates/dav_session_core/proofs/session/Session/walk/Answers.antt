use Rattle.std.proofs.Common.{ap, refl, sym, true, ◌∙◌, subst}
use Rattle.std.specs.Prelude.{not, option_map}
use Rattle.std.proofs.lemmas.Result.{err_from_is_err_and}
use Rattle.dav_path_core.specs.PathText.{PathText}
use Rattle.dav_path_core.specs.Segments.{segments}
use Rattle.dav_files_core.specs.Meta.{meta_at}
use Rattle.dav_files_core.specs.Resources.{IsResourceMap, Resource, at_path}
use Rattle.dav_guarded_core.specs.Step.{State}
use Rattle.dav_session_core.specs.Sessions as spec
use Rattle.dav_session_core.specs.Subtrees.{IsSubtreeWalk}
use Rattle.dav_session_core.proofs.Looking.{as_looks, looks_on}
use Rattle.dav_session_core.specs.declared.session.subtrees.Place.{Place}
use Rattle.dav_session_core.specs.Private.WalkPlaces.{place_path}
use Rattle.dav_session_core.proofs.KindLemmas.{begin_known, now_known, stay_known}
use Rattle.dav_session_core.proofs.SubtreeLemmas.{begin, begin_ordered, ended, fewer, goes_on, none_plain, refused_walk, same_map, stay_plain, stays_ordered}
use Rattle.dav_path_core.proofs.paths.SubtreePaths.{nothing_left}
use Rattle.dav_files_core.proofs.paths.SubtreeMaps.{stands_as}
use Rattle.dav_session_core.proofs.session.Session.walk.Goals as goal

pub loop-place-init : goal.loop-place-init
loop-place-init g c =
    let who = spec.caller c.args.self.now in
    let start = spec.state g.R.Rng.stream c.args.self.now in
    let here = stands_as c.meta.result (at_path start.map (segments c.args.path.bytes))
    (c.meta.ensures.found ∙ ap (λ (q : PathText). option_map (λ (r : Resource). meta_at r.node) (at_path start.map (segments q.bytes))) c.in_ok-copy_of.ensures)
    (c.is_none.ensures ∙ ap not c.if-is_none.false) in
    let first : Place = record { path = c.args.path; folder = true } in
    record {
      looks = c.meta.ensures.looks;
      walking = begin place_path start.map first c.new-places.result.items c.new-waiting.result.items c.push.new.self.items c.new-places.ensures.items c.new-waiting.ensures.items c.in_ok-push.ensures.items here;
      ordered =
          begin_ordered
          place_path start.map first c.new-places.result.items c.new-waiting.result.items c.push.new.self.items c.new-places.ensures.items
          c.new-waiting.ensures.items c.in_ok-push.ensures.items;
      plain = none_plain
          place_path start.map c.new-places.result.items c.new-places.ensures.items;
      known = begin_known start.map first c.new-waiting.result.items c.push.new.self.items c.new-waiting.ensures.items c.in_ok-push.ensures.items refl;
    }

pub returns-in_err-members-clause-err : goal.returns-in_err-members-clause-err
returns-in_err-members-clause-err g c =
    let q = err_from_is_err_and c.from_residual-in_err-members.result c.from_residual-in_err-members.ensures.1 in
    let start = spec.state g.R.Rng.stream c.args.self.now in
    rw (q.1, q.2) (refused_walk place_path start.map (segments c.args.path.bytes) c.loop-place.places.items c.loop-place.waiting.items c.pop.new.self.items c.in-Some.place
    c.in-Some.ensures.items c.loop-place.invariant.walking c.in_err-members.field-0.0 (spec.state g.R.Rng.stream c.loop-place.self).map
    (same_map (spec.caller c.args.self.now) start (spec.caller c.loop-place.self) (spec.state g.R.Rng.stream c.loop-place.self) (as_looks c.loop-place.invariant.looks)) c.in_err-members.ensures.err)

pub loop-place-smaller : goal.loop-place-smaller
loop-place-smaller g c =
    let start = spec.state g.R.Rng.stream c.args.self.now in
    fewer place_path start.map (segments c.args.path.bytes) c.loop-place.places.items c.loop-place.waiting.items c.pop.new.self.items c.in-Some.place
    c.in-Some.ensures.items c.loop-place.invariant.walking c.push-in-Some.new.self.items c.in_ok-members.members.items c.reverse.new.self.items c.append.new.self.items (spec.state g.R.Rng.stream c.loop-place.self).map
    (same_map (spec.caller c.args.self.now) start (spec.caller c.loop-place.self) (spec.state g.R.Rng.stream c.loop-place.self) (as_looks c.loop-place.invariant.looks))
    c.reverse.ensures.items c.in_ok-append.ensures.items c.in_ok-members.ensures.ok

pub loop-place-preserved : goal.loop-place-preserved
loop-place-preserved g c =
    let start = spec.state g.R.Rng.stream c.args.self.now in
    record {
      looks = looks_on c.loop-place.invariant.looks c.places_in.ensures.looks;
      walking = goes_on place_path start.map (segments c.args.path.bytes) c.loop-place.places.items c.loop-place.waiting.items c.pop.new.self.items c.in-Some.place
          c.in-Some.ensures.items c.loop-place.invariant.walking c.push-in-Some.new.self.items c.in_ok-members.members.items c.reverse.new.self.items c.append.new.self.items (spec.state g.R.Rng.stream c.loop-place.self).map
          (same_map (spec.caller c.args.self.now) start (spec.caller c.loop-place.self) (spec.state g.R.Rng.stream c.loop-place.self) (as_looks c.loop-place.invariant.looks))
          c.reverse.ensures.items c.in_ok-append.ensures.items c.in_ok-members.ensures.ok c.in_ok-push-2.ensures.items;
      ordered = stays_ordered place_path start.map
          (segments c.args.path.bytes) c.loop-place.places.items c.loop-place.waiting.items c.pop.new.self.items c.in-Some.place
          c.in-Some.ensures.items c.loop-place.invariant.walking c.push-in-Some.new.self.items c.in_ok-members.members.items c.reverse.new.self.items c.append.new.self.items (spec.state g.R.Rng.stream c.loop-place.self).map
          (same_map (spec.caller c.args.self.now) start (spec.caller c.loop-place.self)
          (spec.state g.R.Rng.stream c.loop-place.self) (as_looks c.loop-place.invariant.looks))
          c.reverse.ensures.items c.in_ok-append.ensures.items c.in_ok-members.ensures.ok c.in_ok-push-2.ensures.items c.loop-place.invariant.ordered;
      plain = stay_plain place_path start.map c.loop-place.places.items
          c.push-in-Some.new.self.items c.in-Some.place
          (spec.state g.R.Rng.stream c.loop-place.self).map
          c.in_ok-push-2.ensures.items
          (same_map (spec.caller c.args.self.now) start (spec.caller c.loop-place.self)
          (spec.state g.R.Rng.stream c.loop-place.self) (as_looks c.loop-place.invariant.looks))
          c.loop-place.invariant.plain c.in_ok-members.ensures.plain;
      known = stay_known start.map c.loop-place.waiting.items c.pop.new.self.items c.in-Some.place
          c.in-Some.ensures.items c.loop-place.invariant.known (spec.state g.R.Rng.stream c.loop-place.self).map
          (same_map (spec.caller c.args.self.now) start (spec.caller c.loop-place.self)
          (spec.state g.R.Rng.stream c.loop-place.self) (as_looks c.loop-place.invariant.looks))
          c.in_ok-members.members.items c.reverse.new.self.items c.append.new.self.items
          c.reverse.ensures.items c.in_ok-append.ensures.items c.in_ok-members.ensures.known;
    }

pub places_in-requires : goal.places_in-requires
places_in-requires g c =
    let start = spec.state g.R.Rng.stream c.args.self.now in
    record {
      known = now_known start.map c.loop-place.waiting.items c.pop.new.self.items c.in-Some.place
          c.in-Some.ensures.items c.loop-place.invariant.known (spec.state g.R.Rng.stream c.loop-place.self).map
          (same_map (spec.caller c.args.self.now) start (spec.caller c.loop-place.self)
          (spec.state g.R.Rng.stream c.loop-place.self) (as_looks c.loop-place.invariant.looks));
    }

pub returns-clause-ok : goal.returns-clause-ok
returns-clause-ok g c =
    let is_map = subst IsResourceMap (ap (λ (s : State). s.map) c.meta.ensures.looks.live) c.meta.ensures.shape in
    subst (IsSubtreeWalk (spec.state g.R.Rng.stream c.args.self.now).map (segments c.args.path.bytes)) (sym c.in_ok-paths_at.ensures)
    (ended place_path (spec.state g.R.Rng.stream c.args.self.now).map (segments c.args.path.bytes) c.loop-place.places.items c.loop-place.waiting.items
    (nothing_left c.loop-place.waiting.items c.loop-place.waiting.len c.loop-place.waiting.ok.0 c.in_default.ensures.cases.0) c.loop-place.invariant.walking c.loop-place.invariant.ordered
    c.loop-place.invariant.plain is_map)

pub returns-in_err-members-clause-looks : goal.returns-in_err-members-clause-looks
returns-in_err-members-clause-looks g c = looks_on c.loop-place.invariant.looks c.places_in.ensures.looks

pub returns-in_err-append-clause-looks : goal.returns-in_err-append-clause-looks
returns-in_err-append-clause-looks g c = looks_on c.loop-place.invariant.looks c.places_in.ensures.looks

pub returns-in_err-push-2-clause-looks : goal.returns-in_err-push-2-clause-looks
returns-in_err-push-2-clause-looks g c = looks_on c.loop-place.invariant.looks c.places_in.ensures.looks
