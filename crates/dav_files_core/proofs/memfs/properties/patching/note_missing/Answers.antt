use Rattle.std.proofs.Common.{[], ◌∷◌, ◌++◌, sym, ap, ◌∙◌}
use Rattle.dav_files_core.specs.Private.PropertyMaps.{properties_of}
use Rattle.dav_files_core.proofs.properties.PatchLemmas.{is_noted}
use Rattle.dav_files_core.proofs.properties.PropertyMapLemmas.{same_key}
use Rattle.dav_files_core.proofs.memfs.properties.patching.note_missing.Goals as goal

pub returns-clause-ok : goal.returns-clause-ok
returns-clause-ok c =
    is_noted (properties_of c.args.kept.now.entries) c.args.missing.now.items c.args.key.now c.push.new.self.items (sym c.has_key.ensures ∙ c.if-has_key.false)
    (c.in_ok-push.ensures.items ∙ ap (λ key. c.args.missing.now.items ++ (key ∷ [])) (same_key c.args.key.now c.in_ok-clone.field-0 c.in_ok-clone.ensures.cases))
