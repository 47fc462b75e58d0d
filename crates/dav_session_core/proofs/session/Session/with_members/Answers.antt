use Rattle.std.proofs.Common.{◌≡◌, List, ◌∷◌, ◌++◌, map, ap, ◌∙◌}
use Rattle.std.proofs.lemmas.List.{map-append}
use Rattle.std.proofs.lemmas.Result.{err_from_is_err_and}
use Rattle.dav_path_core.specs.Fronts.{Path}
use Rattle.dav_path_core.specs.PathText.{PathText}
use Rattle.dav_path_core.specs.Segments.{segments}
use Rattle.dav_guarded_core.specs.Step.{State}
use Rattle.dav_session_core.specs.MemberPaths.{paths_of_members}
use Rattle.dav_session_core.specs.Sessions as spec
use Rattle.dav_session_core.proofs.Looking.{looks_on}
use Rattle.dav_session_core.proofs.PlaceLemmas.{nowhere_odd}
use Rattle.dav_session_core.proofs.session.Session.with_members.Goals as goal

pub returns-in_err-members-clause-err : goal.returns-in_err-members-clause-err
returns-in_err-members-clause-err g c =
    let q = err_from_is_err_and c.from_residual-in_err-members.result c.from_residual-in_err-members.ensures.1 in
    rw (q.1, q.2) (nowhere_odd (spec.state g.R.Rng.stream c.args.self.now).map (spec.state g.R.Rng.stream c.place_alone.new.self).map (segments c.args.path.bytes)
    c.in_err-members.field-0.0 (ap (λ (s : State). s.map) c.place_alone.ensures.looks.live) c.in_err-members.ensures.err)

pub returns-clause-ok : goal.returns-clause-ok
returns-clause-ok g c =
    let p = segments c.args.path.bytes in
    let there : map (λ p. segments p.bytes) c.in_ok-members.members.items
    ≡ paths_of_members (spec.state g.R.Rng.stream c.args.self.now).map p =
    c.in_ok-members.ensures.ok ∙ ap
    (λ (s : State). paths_of_members s.map p) c.place_alone.ensures.looks.live in
    ap (map (λ p. segments p.bytes)) c.in_ok-append.ensures.items
    ∙ map-append
    (λ p. segments p.bytes) c.in_ok-places.places.items c.in_ok-members.members.items
    ∙ ap (λ (first : List Path). first ++ map
    (λ p. segments p.bytes) c.in_ok-members.members.items) c.in_ok-places.ensures.ok
    ∙ ap (λ (q : PathText). segments q.bytes ∷ map
    (λ p. segments p.bytes) c.in_ok-members.members.items) c.in_ok-copy_of.ensures
    ∙ ap (λ (ps : List Path). p ∷ ps) there

pub returns-in_err-append-clause-looks : goal.returns-in_err-append-clause-looks
returns-in_err-append-clause-looks g c = looks_on c.place_alone.ensures.looks c.members.ensures.looks

pub returns-clause-looks : goal.returns-clause-looks
returns-clause-looks g c = looks_on c.place_alone.ensures.looks c.members.ensures.looks
