use Rattle.std.proofs.Common.{None, Some, [], ap, sym, ◌∙◌}
use Rattle.std.specs.Prelude.{unwrap_or}
use Rattle.std.specs.List.{last_or}
use Rattle.dav_files_core.specs.Walks.{Stored}
use Rattle.dav_files_core.proofs.walks.StoredLemmas.{name_of, known_item}
use Rattle.dav_files_core.proofs.memfs.walking.MemFsStored.name.Goals as goal

pub returns-in-Some : goal.returns-in-Some
returns-in-Some c =
    let t = c.self.inside.tree.now.keyed in
    c.as_slice.ensures
    ∙ sym (name_of t c.self.inside.number (known_item t c.self.inside.number c.self.inside.node.now c.self.invariant) (Some (c.in-Some._folder, c.in-Some.name.now)) (sym c.in-Some.ensures))
    ∙ ap (λ (s : Stored). unwrap_or (last_or None s.path) []) c.self.view_is
