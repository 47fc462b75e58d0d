use Rattle.std.proofs.Common.{◌∙◌, ◌++◌, sym, ap}
use Rattle.dav_path_core.specs.Segments.{segments}
use Rattle.dav_files_core.specs.Resources.{at_path}
use Rattle.dav_safe_methods_core.proofs.get.tell_bytes.Goals as goal

pub returns-clause-bytes : goal.returns-clause-bytes
returns-clause-bytes g c =
    let read = c.in_ok-bytes.ensures.ok in
    let empty = ap (λ b. b.items) c.add_file_fields.ensures.body ∙ c.requires.empty in (
      read.0,
      ap (λ p. at_path c.args.session.now.stores.stores.map (segments p.bytes)) (sym c.in_ok-copy_of.ensures) ∙ read.1,
      read.2,
      c.in_ok-push.ensures ∙ ap (λ old. old ++ c.in_ok-bytes.bytes) empty ∙ read.3,
    )
