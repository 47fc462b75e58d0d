use Rattle.std.proofs.Common.{◌≡◌, ◌∙◌, ℕ, ◌+◌, ◌≤◌, List, ◌∷◌, ◌++◌, [], length, map, sym, ap, subst, arith}
use Rattle.std.proofs.lemmas.List.{length-append, map_push}
use Rattle.std.proofs.lemmas.List.Sums.{sum_by_push}
use Rattle.dav_path_core.specs.PathText.{PathText}
use Rattle.dav_guarded_core.specs.Requests.{Command}
use Rattle.dav_notes_core.specs.Asking.{Caller}
use Rattle.dav_notes_core.specs.Costs.{cost_for}
use Rattle.dav_session_core.specs.NoteCosts.{removal_cost}
use Rattle.dav_path_core.specs.Segments.{segments}
use Rattle.dav_guarded_core.specs.Served.{answer_of}
use Rattle.dav_session_core.specs.declared.session.Session.{Session}
use Rattle.dav_session_core.specs.Callers.{live}
use Rattle.dav_session_core.specs.Sessions as spec
use Rattle.dav_session_core.proofs.RemovalLemmas.{Removing, removing_as, removing_begun, removing_ended}
use Rattle.dav_path_core.proofs.paths.SubtreePaths.{nothing_left}
use Rattle.dav_session_core.proofs.Looking.{acts_none, acts_on}
use Rattle.dav_session_core.proofs.session.Session.remove_each.Goals as goal

pub loop-path-init : goal.loop-path-init
loop-path-init g c =
    let who = spec.caller c.args.self.now in
    let start = spec.state g.R.Rng.stream c.args.self.now in
    record {
      acts = acts_none g.R.Rng.stream c.args.self.now;
      room = c.requires.room;
      removing = λ p no_root stood walk free. removing_begun who p start (map (λ q. segments q.bytes) c.args.places.items) stood walk free;
    }

-- room for several is room for one
one_room : {R : Type 0} (count bytes cost : ℕ) (s : Session R) → spec.HasRoomForNotes (count + 1) (bytes + cost) s → spec.HasRoomForNotes 1 cost s
one_room count bytes cost s h = λ keeps. (omega (arith, (h keeps).0), omega (arith, (h keeps).1))

-- what the last of them costs, beside the others
last_cost : (who : Caller) (all rest : List PathText) (path : PathText) → all ≡ rest ++ path ∷ []
    → removal_cost who (map (λ q. segments q.bytes) all) ≡ removal_cost who (map (λ q. segments q.bytes) rest) + cost_for who (Command.Remove (segments path.bytes))
last_cost who all rest path is =
    ap (λ (xs : List PathText). removal_cost who (map (λ q. segments q.bytes) xs)) is ∙ ap (removal_cost who) (map_push (λ q. segments q.bytes) rest path)
    ∙ sum_by_push (λ p. cost_for who (Command.Remove p)) (map (λ q. segments q.bytes) rest) (segments path.bytes)

-- room for all of them, by a caller who is the same
room_for_all : {R : Type 0} (who asker : Caller) (all rest : List PathText) (path : PathText) (count : ℕ) (s : Session R) → asker ≡ who → all ≡ rest ++ path ∷ [] → count ≡ length rest + 1
    → spec.HasRoomForNotes count (removal_cost who (map (λ q. segments q.bytes) all)) s
    → spec.HasRoomForNotes (length rest + 1) (removal_cost who (map (λ q. segments q.bytes) rest) + cost_for asker (Command.Remove (segments path.bytes))) s
room_for_all who asker all rest path count s same is len h =
    subst (λ n. spec.HasRoomForNotes (length rest + 1) n s)
    (last_cost who all rest path is ∙ ap (λ (w : Caller). removal_cost who (map (λ q. segments q.bytes) rest) + cost_for w (Command.Remove (segments path.bytes))) (sym same))
    (subst (λ n. spec.HasRoomForNotes n (removal_cost who (map (λ q. segments q.bytes) all)) s) len h)

pub loop-path-preserved : goal.loop-path-preserved
loop-path-preserved g c =
    let who = spec.caller c.args.self.now in
    let start = spec.state g.R.Rng.stream c.args.self.now in
    let mid = spec.state g.R.Rng.stream c.loop-path.self in
    let after = spec.state g.R.Rng.stream c.change.new.self in
    let rest = c.pop.new.self.items in
    let count : length c.loop-path.places.items ≡ length rest + 1 = ap length c.in-Some.ensures.items ∙ length-append rest (c.in-Some.path ∷ []) in
    let asker = spec.caller c.loop-path.self in
    let bytes = removal_cost who (map (λ q. segments q.bytes) rest) in
    let room = room_for_all who asker c.loop-path.places.items rest c.in-Some.path (length c.loop-path.places.items) c.loop-path.self c.loop-path.invariant.acts.who c.in-Some.ensures.items count
    c.loop-path.invariant.room in
    record {
      room = c.change.ensures.room (length rest) bytes room;
      acts = acts_on c.loop-path.invariant.acts c.change.ensures.acts;
      removing = λ p no_root stood walk free.
          removing_as (λ q. segments q.bytes) who (spec.caller c.loop-path.self) p (live who.now start) mid after c.loop-path.places.items c.pop.new.self.items c.in-Some.path
          (answer_of c.change.result) no_root c.loop-path.invariant.acts.who c.in-Some.ensures.items (c.loop-path.invariant.removing p no_root stood walk free) (c.change.ensures.step (one_room (length rest) bytes (cost_for asker (Command.Remove (segments c.in-Some.path.bytes))) c.loop-path.self room));
    }

pub returns-clause-removed : goal.returns-clause-removed
returns-clause-removed g c = λ p no_root stood walk free.
    let who = spec.caller c.args.self.now in
    let start = spec.state g.R.Rng.stream c.args.self.now in
    let last = spec.state g.R.Rng.stream c.loop-path.self in
    removing_ended who p (live who.now start) last
    (subst (λ xs. Removing who p (live who.now start) xs last)
    (ap (map (λ q. segments q.bytes)) (nothing_left c.loop-path.places.items c.loop-path.places.len c.loop-path.places.ok.0 c.in_default.ensures.cases.0))
    (c.loop-path.invariant.removing p no_root stood walk free))
