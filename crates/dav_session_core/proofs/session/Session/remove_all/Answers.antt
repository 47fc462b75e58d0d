use Rattle.std.proofs.Common.{List, length, subst}
use Rattle.dav_path_core.specs.PathText.{PathText}
use Rattle.std.proofs.lemmas.Result.{err_from_is_err_and}
use Rattle.dav_session_core.specs.Callers.{Caller, live}
use Rattle.dav_session_core.specs.NoteCosts.{removal_cost}
use Rattle.dav_session_core.specs.Removing.{IsRemoved}
use Rattle.dav_session_core.specs.Sessions as spec
use Rattle.dav_session_core.specs.Unhindered.{WhereRemovable, paths_of}
use Rattle.dav_session_core.proofs.Looking.{acts_before, acts_on, from_before}
use Rattle.dav_session_core.proofs.session.Session.remove_all.Goals as goal

pub returns-clause-removed : goal.returns-clause-removed
returns-clause-removed g c =
    from_before (λ w s. WhereRemovable (live w.now s) w (paths_of c.args.places.items) (λ p. IsRemoved w.now p (live w.now s) (spec.state g.R.Rng.stream c.remove_each.new.self)))
    c.make_room_to_remove.ensures.same c.remove_each.ensures.removed

pub returns-in_err-make_room_to_remove-clause-acts : goal.returns-in_err-make_room_to_remove-clause-acts
returns-in_err-make_room_to_remove-clause-acts g c = acts_before c.make_room_to_remove.ensures.same

pub returns-clause-acts : goal.returns-clause-acts
returns-clause-acts g c = acts_on (acts_before c.make_room_to_remove.ensures.same) c.remove_each.ensures.acts

pub returns-in_err-make_room_to_remove-clause-refused : goal.returns-in_err-make_room_to_remove-clause-refused
returns-in_err-make_room_to_remove-clause-refused g c =
    let q = err_from_is_err_and c.from_residual.result c.from_residual.ensures.1 in
    rw q.1 c.make_room_to_remove.ensures.same

pub remove_each-requires : goal.remove_each-requires
remove_each-requires g c = record {
  room = subst (λ (xs : List PathText). spec.HasRoomForNotes (length xs) (removal_cost (spec.caller c.make_room_to_remove.new.self) (paths_of xs)) c.make_room_to_remove.new.self) c.deref.ensures.value
      c.in_ok-make_room_to_remove.ensures.ok;
}
