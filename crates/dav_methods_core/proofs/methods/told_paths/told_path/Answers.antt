use Rattle.std.proofs.Common.{◌≡◌, ◌∙◌, sym, ap, subst}
use Rattle.std.specs.Prelude.{IfOk, option_map}
use Rattle.dav_path_core.specs.Segments.{segments}
use Rattle.dav_files_core.specs.Meta.{meta_of}
use Rattle.dav_session_core.specs.Ends.{known_at}
use Rattle.dav_session_core.specs.Sessions as spec
use Rattle.dav_methods_core.proofs.ToldPathLemmas.{told_folder}
use Rattle.dav_methods_core.proofs.methods.told_paths.told_path.Goals as goal

pub returns-then-is_folder-clause-ok : goal.returns-then-is_folder-clause-ok
returns-then-is_folder-clause-ok g c =
    let m = (spec.state g.R.Rng.stream c.args.session.now).map in
    let found = c.meta.ensures.found ∙ ap (λ p. known_at m (segments p.bytes)) c.in_ok-copy_of.ensures in
    subst (λ p. IfOk c.with_slash.result (λ told. told ≡ p))
    (told_folder c.args.path m (meta_of c.in-Some.known) (sym (ap (option_map meta_of) c.in-Some.is) ∙ found) (sym c.is_folder.ensures ∙ c.if-is_folder.true))
    c.with_slash.ensures.ok
