use Rattle.std.proofs.Common.{◌≡◌, ◌∙◌, sym, ap}
use Rattle.std.proofs.lemmas.Bool.{false≢true}
use Rattle.dav_path_core.specs.Segments.{segments}
use Rattle.dav_files_core.specs.declared.memfs.Kind.TheVariants.{Folder}
use Rattle.dav_files_core.specs.Meta.{meta_of}
use Rattle.dav_fields_core.specs.FileTags.{file_tag}
use Rattle.dav_session_core.specs.Sessions as spec
use Rattle.dav_session_core.proofs.StandingLemmas.{file_stands}
use Rattle.dav_session_core.proofs.session.Session.standing_known.Goals as goal

pub returns-clause-ok : goal.returns-clause-ok
returns-clause-ok g c =
    let known = c.args.known.now in
    let m = (spec.state g.R.Rng.stream c.args.self.now).map in
    let modified : c.unwrap-modified.result.0 ≡ known.modified.0 = cc (c.modified.ensures, c.unwrap-modified.ensures) in
    file_stands m (segments c.args.path.now.bytes) (meta_of known) c.in_ok-tag.tag c.unwrap-modified.result c.in_ok-latest.latest
    (λ (folder : known.kind ≡ Folder). false≢true (sym c.if-is_dir.false ∙ c.is_dir.ensures.1 folder))
    (c.in_ok-tag.ensures.ok ∙ ap (λ n. file_tag n c.len.result) modified ∙ ap (file_tag known.modified.0) c.len.ensures)
    modified c.in_ok-latest.ensures.ok
