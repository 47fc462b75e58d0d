use Rattle.std.proofs.Common.{Ok, ap}
use Rattle.dav_files_core.specs.Restoring.{with_restored_entry}
use Rattle.dav_files_core.proofs.opens.OpenedLemmas.{no_node}
use Rattle.dav_files_core.proofs.changes.LeftLemmas.{stands_for, stands_itself, is_view, folder_known, no_member, with_restored}
use Rattle.dav_files_core.proofs.memfs.MemFs.restore_entry.Goals as goal

pub restore_node-requires-clause-known : goal.restore_node-requires-clause-known
restore_node-requires-clause-known c =
    let h = c.requires.free in
    folder_known c.self.inside.tree.keyed c.args.self.now (stands_for _ _ c.self.view_is c.self.invariant) h.0 c.args.folder _ h.1

pub restore_node-requires-clause-free : goal.restore_node-requires-clause-free
restore_node-requires-clause-free c =
    let h = c.requires.free in
    no_member c.self.inside.tree.keyed c.args.self.now (stands_for _ _ c.self.view_is c.self.invariant) h.0 c.args.folder _ h.1 c.in_ok-name.name c.in_ok-name.ensures

pub restore_node-requires-clause-unused : goal.restore_node-requires-clause-unused
restore_node-requires-clause-unused c = no_node c.self.inside.tree.keyed c.args.self.now (stands_for _ _ c.self.view_is c.self.invariant) c.args.number c.requires.unused

pub invariant_of-self-2 : goal.invariant_of-self-2
invariant_of-self-2 c =
    let h = c.requires.free in
    record {
      represents =
          stands_itself c.restore_node.new.tree.keyed (with_restored_entry c.args.self.now h.0 (record { number = c.args.number; node = c.args.node }))
          (with_restored c.self.inside.tree.keyed c.args.self.now (stands_for _ _ c.self.view_is c.self.invariant) h.0 c.args.folder _ h.1 c.in_ok-name.name c.in_ok-name.ensures
          c.args.node c.args.number (no_node c.self.inside.tree.keyed c.args.self.now (stands_for _ _ c.self.view_is c.self.invariant) c.args.number c.requires.unused) c.requires.positive c.requires.bare c.restore_node.new.tree.keyed c.in_ok-restore_node.ensures.ok);
      indexed = c.in_ok-restore_node.ensures.indexed;
    }

pub returns-clause-answer : goal.returns-clause-answer
returns-clause-answer c = λ p h.
    let rep = stands_for _ _ c.self.view_is c.self.invariant in
    let rep' = with_restored c.self.inside.tree.keyed c.args.self.now rep p c.args.folder _ h c.in_ok-name.name c.in_ok-name.ensures
    c.args.node c.args.number (no_node c.self.inside.tree.keyed c.args.self.now rep c.args.number c.requires.unused) c.requires.positive c.requires.bare c.restore_node.new.tree.keyed c.in_ok-restore_node.ensures.ok in
    ap (λ m. Ok (tt, m)) (is_view c.restore_node.new.tree.keyed _ rep')

pub returns-clause-shape : goal.returns-clause-shape
returns-clause-shape c = (invariant_of-self-2 c).represents.is_map
