use Rattle.std.proofs.Common.{map, sym, ap, ◌∙◌, subst}
use Rattle.dav_files_core.specs.Private.PropertyChanges.{AreMissing, changes_of}
use Rattle.dav_files_core.specs.Private.PropertyMaps.{AreKeyed, properties_of}
use Rattle.dav_files_core.specs.Properties.{patch_update, patched_properties}
use Rattle.dav_files_core.proofs.properties.KeyedLemmas.{keyed_patched}
use Rattle.dav_files_core.proofs.properties.PatchLemmas.{all_patched}
use Rattle.dav_files_core.proofs.memfs.properties.Props.patch.Goals as goal

pub returns-clause-ok : goal.returns-clause-ok
returns-clause-ok c =
    let props = properties_of c.self.inside.map.entries in
    let changes = changes_of c.in_ok-answers.changes.last.entries in
    let patch = map patch_update c.args.patch.items in
    all_patched props (properties_of c.make_room.new.kept.entries) (properties_of c.make_changes.new.kept.entries) patch changes c.as_slice.result.now
    (subst (AreMissing props changes) (sym c.as_slice.ensures.value) c.in_ok-answers.ensures.missing) c.in_ok-make_room.ensures.others c.in_ok-make_room.ensures.room
    c.in_ok-answers.ensures.changes c.make_changes.ensures
    ∙ ap (λ props. patched_properties props patch) c.self.view_is

pub invariant_of-self-2 : goal.invariant_of-self-2
invariant_of-self-2 c =
    let props = properties_of c.self.inside.map.entries in
    let changes = changes_of c.in_ok-answers.changes.last.entries in
    let patch = map patch_update c.args.patch.items in
    subst AreKeyed
    (sym (all_patched props (properties_of c.make_room.new.kept.entries) (properties_of c.make_changes.new.kept.entries) patch changes c.as_slice.result.now
    (subst (AreMissing props changes) (sym c.as_slice.ensures.value) c.in_ok-answers.ensures.missing) c.in_ok-make_room.ensures.others c.in_ok-make_room.ensures.room
    c.in_ok-answers.ensures.changes c.make_changes.ensures))
    (keyed_patched patch props c.self.invariant)
