use Rattle.std.proofs.Common.{◌≡◌, ◌==◌, ◌∙◌, eqb-true, false, refl, subst, sym}
use Rattle.std.proofs.lemmas.Result.{on_ok_weaker}
use Rattle.dav_path_core.specs.Segments.{segments}
use Rattle.dav_session_core.specs.Callers.{live}
use Rattle.dav_session_core.specs.Removing.{IsRemoved}
use Rattle.dav_session_core.specs.Sessions as spec
use Rattle.dav_session_core.specs.Unhindered.{WhereRemovable, paths_of}
use Rattle.dav_session_core.proofs.ClearingLemmas.{goes_away, stays}
use Rattle.dav_path_core.proofs.paths.SubtreePaths.{nothing_left}
use Rattle.dav_session_core.proofs.session.Session.clear.Goals as goal

pub returns-then-is_empty-clause-cleared : goal.returns-then-is_empty-clause-cleared
returns-then-is_empty-clause-cleared g c = λ p goes free no_root.
    let start = spec.state g.R.Rng.stream c.args.self.now in
    stays (λ q. segments q.bytes) c.args.places.items (spec.caller c.args.self.now) p start start goes
    (nothing_left c.args.places.items c.args.places.len c.args.places.ok.0 (eqb-true _ 0 (sym c.is_empty.ensures ∙ c.if-is_empty.true))) refl

pub returns-clause-cleared : goal.returns-clause-cleared
returns-clause-cleared g c =
    let who = spec.caller c.args.self.now in
    let start = spec.state g.R.Rng.stream c.args.self.now in
    let after = spec.state g.R.Rng.stream c.remove_all.new.self in
    on_ok_weaker c.remove_all.result
    (λ (removed : WhereRemovable (live who.now start) who (paths_of c.args.places.items) (λ p. IsRemoved who.now p (live who.now start) after)) p goes free no_root.
    goes_away (λ q. segments q.bytes) c.args.places.items who p start after goes
    (subst (λ n. (n == 0) ≡ false) c.args.places.ok.0 (sym c.is_empty.ensures ∙ c.if-is_empty.false)) free no_root (removed p)) c.remove_all.ensures.removed
