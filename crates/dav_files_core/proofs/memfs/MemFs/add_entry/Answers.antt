use Rattle.std.proofs.Common.{Ok, sym, ap, ◌∙◌}
use Rattle.dav_files_core.specs.Outcomes.{with_new_entry}
use Rattle.dav_files_core.proofs.changes.LeftLemmas.{stands_for, stands_itself, is_view, folder_known, no_member, with_node}
use Rattle.dav_files_core.proofs.memfs.MemFs.add_entry.Goals as goal

pub add_node-requires-clause-known : goal.add_node-requires-clause-known
add_node-requires-clause-known c =
    let h = c.requires.free in
    folder_known c.self.inside.tree.keyed c.args.self.now (stands_for _ _ c.self.view_is c.self.invariant) h.0 c.args.folder _ h.1

pub add_node-requires-clause-free : goal.add_node-requires-clause-free
add_node-requires-clause-free c =
    let h = c.requires.free in
    no_member c.self.inside.tree.keyed c.args.self.now (stands_for _ _ c.self.view_is c.self.invariant) h.0 c.args.folder _ h.1 c.in_ok-name.name c.in_ok-name.ensures

pub invariant_of-self-2 : goal.invariant_of-self-2
invariant_of-self-2 c =
    let h = c.requires.free in
    record {
      represents =
          stands_itself c.add_node.new.tree.keyed (with_new_entry c.args.self.now h.0 c.args.node)
          (with_node c.self.inside.tree.keyed c.args.self.now (stands_for _ _ c.self.view_is c.self.invariant) h.0 c.args.folder _ h.1 c.in_ok-name.name c.in_ok-name.ensures
          c.args.node c.requires.bare c.add_node.new.tree.keyed c.in_ok-id.ensures.ok.1);
      indexed = c.in_ok-id.ensures.indexed;
    }

pub returns-clause-answer : goal.returns-clause-answer
returns-clause-answer c = λ p h.
    let rep = stands_for _ _ c.self.view_is c.self.invariant in
    let rep' = with_node c.self.inside.tree.keyed c.args.self.now rep p c.args.folder _ h c.in_ok-name.name c.in_ok-name.ensures
    c.args.node c.requires.bare c.add_node.new.tree.keyed c.in_ok-id.ensures.ok.1 in
    ap (λ id. Ok (id, with_new_entry c.args.self.now p c.args.node)) (rep.next ∙ sym c.in_ok-id.ensures.ok.0) ∙ ap (λ m. Ok (c.in_ok-id.id, m)) (is_view c.add_node.new.tree.keyed _ rep')

pub returns-clause-shape : goal.returns-clause-shape
returns-clause-shape c = (invariant_of-self-2 c).represents.is_map
