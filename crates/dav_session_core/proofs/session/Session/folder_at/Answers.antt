use Rattle.std.proofs.Common.{◌∙◌, ap, map, sym}
use Rattle.std.specs.Prelude.{option_map}
use Rattle.dav_path_core.specs.Segments.{segments}
use Rattle.dav_files_core.specs.Meta.{meta_of}
use Rattle.dav_guarded_core.specs.Step.{State}
use Rattle.dav_session_core.specs.Sessions as spec
use Rattle.dav_session_core.proofs.ClearingLemmas.{folder_there, walk_goes}
use Rattle.dav_session_core.proofs.session.Session.folder_at.Goals as goal

pub returns-in_ok-copy_of-in-Some-clause-ok : goal.returns-in_ok-copy_of-in-Some-clause-ok
returns-in_ok-copy_of-in-Some-clause-ok g c =
    let start = spec.state g.R.Rng.stream c.args.self.now in
    let mid = spec.state g.R.Rng.stream c.meta.new.self in
    let folder = folder_there start.map c.args.path.now c.in_ok-copy_of.field-0 c.in_ok-copy_of.ensures (meta_of c.in-Some.known)
    (sym (ap (option_map meta_of) c.in-Some.is) ∙ c.meta.ensures.found) (c.is_dir.ensures.0 c.if-is_dir.true) in
    walk_goes start.map c.args.path.now c.in_ok-copy_of-in-Some.field-0 c.in_ok-copy_of-in-Some.ensures c.walk.result (λ places. map (λ p. segments p.bytes) places.items) mid.map
    (ap (λ (s : State). s.map) c.meta.ensures.looks.live) folder c.walk.ensures.ok
