use Rattle.std.proofs.Common.{[], ◌∷◌, ◌++◌, ap, ◌∙◌, subst}
use Rattle.dav_path_core.specs.StoreAnswers.{AnswersWithRoom}
use Rattle.dav_path_core.specs.Fronts.{Segment}
use Rattle.dav_files_core.specs.Private.Entries.{put_there}
use Rattle.dav_files_core.specs.Private.FileRepresents.{resource_map}
use Rattle.dav_files_core.specs.Resources.{Resource}
use Rattle.dav_files_core.proofs.moves.RelocatingLemmas.{moved_stands, moved_answer}
use Rattle.dav_files_core.proofs.changes.SettingLemmas.{same_entry}
use Rattle.dav_files_core.proofs.changes.LeftLemmas.{stands_for}
use Rattle.dav_files_core.proofs.memfs.MemFs.relocate.Goals as goal

pub invariant_of-self : goal.invariant_of-self
invariant_of-self c =
    let k = c.requires.known in
    let h = c.requires.folder in
    record {
      represents =
          moved_stands c.self.inside.tree.keyed c.args.self.now (stands_for _ _ c.self.view_is c.self.invariant) k.0 k.1 k.2 c.args.id k.3 h.0 h.1 h.2 h.4 c.args.folder h.3
          c.in_ok-name.name c.move_node.result c.move_node.new.tree.keyed c.move_node.ensures.answer c.move_node.ensures.outside;
      indexed = c.move_node.ensures.indexed;
    }

pub returns-clause-answer : goal.returns-clause-answer
returns-clause-answer c = λ p q r f here number there into.
    let h = c.requires.folder in
    let rep = stands_for _ _ c.self.view_is c.self.invariant in
    let is_folder = ap (λ (r : Resource). r.node.kind) (same_entry c.args.self.now rep.is_map c.args.folder q f there into h.0 h.1 h.2 h.3) ∙ h.4 in
    subst (λ (name : Segment). AnswersWithRoom (λ _. tt {0}) c.move_node.result (put_there c.args.self.now p (q ++ (name ∷ []))) c.args.self.now (resource_map c.move_node.new.tree.keyed)) c.in_ok-name.ensures
    (moved_answer c.self.inside.tree.keyed c.args.self.now rep p r here c.args.id number q f there is_folder c.args.folder into
    c.in_ok-name.name c.move_node.result c.move_node.new.tree.keyed c.move_node.ensures.answer c.move_node.ensures.outside c.move_node.ensures.below)

pub returns-clause-shape : goal.returns-clause-shape
returns-clause-shape c = (invariant_of-self c).represents.is_map
