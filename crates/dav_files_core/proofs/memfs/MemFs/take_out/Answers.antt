use Rattle.dav_files_core.proofs.changes.LeavingLemmas.{taken_stands, taken_answer}
use Rattle.dav_files_core.proofs.changes.LeftLemmas.{stands_for}
use Rattle.dav_files_core.proofs.memfs.MemFs.take_out.Goals as goal

pub invariant_of-self : goal.invariant_of-self
invariant_of-self c =
    let h = c.requires in
    record {
      represents =
          taken_stands c.self.inside.tree.keyed c.args.self.now (stands_for _ _ c.self.view_is c.self.invariant) h.0 h.1 h.2 c.args.id h.3 c.delete_node.result c.delete_node.new.tree.keyed c.delete_node.ensures.answer;
      indexed = c.delete_node.ensures.indexed;
    }

pub returns-clause-answer : goal.returns-clause-answer
returns-clause-answer c = λ p r here number.
    taken_answer c.self.inside.tree.keyed c.args.self.now (stands_for _ _ c.self.view_is c.self.invariant) p r here c.args.id number c.delete_node.result c.delete_node.new.tree.keyed c.delete_node.ensures.answer

pub returns-clause-shape : goal.returns-clause-shape
returns-clause-shape c = (invariant_of-self c).represents.is_map
