use Rattle.std.proofs.Common.{sym}
use Rattle.dav_files_core.proofs.changes.SettingLemmas.{set_stands}
use Rattle.dav_files_core.proofs.changes.LeftLemmas.{stands_for, stands_itself, is_view, lost}
use Rattle.dav_files_core.proofs.memfs.MemFs.replace.Goals as goal

pub unreachable-requires : goal.unreachable-requires
unreachable-requires c =
    let h = c.requires.known in
    lost c.self.inside.tree.keyed c.args.self.now (stands_for _ _ c.self.view_is c.self.invariant) h.0 h.1 h.2 c.args.id h.3 c.in-Err.ensures.set.1

pub invariant_of-self : goal.invariant_of-self
invariant_of-self c =
    let h = c.requires.known in
    record {
      represents =
          stands_itself c.set_node.new.tree.keyed _
          (set_stands c.self.inside.tree.keyed c.args.self.now (stands_for _ _ c.self.view_is c.self.invariant) h.0 h.1 h.2 c.args.id h.3 (λ _. c.args.node) (c.requires.still h.0 h.1 h.2 h.3) c.requires.bare
          c.set_node.new.tree.keyed c.in-Ok.ensures.set);
      indexed = c.set_node.ensures.indexed c.self.inside.index c.self.invariant.indexed;
    }

pub returns-clause-change : goal.returns-clause-change
returns-clause-change c = λ p r here number.
    sym (is_view c.set_node.new.tree.keyed _
    (set_stands c.self.inside.tree.keyed c.args.self.now (stands_for _ _ c.self.view_is c.self.invariant) p r here c.args.id number (λ _. c.args.node) (c.requires.still p r here number) c.requires.bare
    c.set_node.new.tree.keyed c.in-Ok.ensures.set))

pub returns-clause-shape : goal.returns-clause-shape
returns-clause-shape c = (invariant_of-self c).represents.is_map
