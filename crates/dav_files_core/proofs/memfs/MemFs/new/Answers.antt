use Rattle.std.proofs.Common.{◌≡◌, ℕ, sym, subst}
use Rattle.dav_path_core.specs.ChildIndex.{IsIndex}
use Rattle.dav_path_core.specs.Keyed.{lone}
use Rattle.dav_path_core.proofs.index.IndexLemmas.{IsIndex-empty}
use Rattle.dav_files_core.specs.Private.FileRepresents.{Represents, FileTree}
use Rattle.dav_files_core.specs.Outcomes.{start, new_folder}
use Rattle.dav_files_core.specs.Resources.{Node}
use Rattle.dav_files_core.proofs.walks.StartLemmas.{Represents-single}
use Rattle.dav_files_core.proofs.changes.LeftLemmas.{stands_itself, is_view}
use Rattle.dav_files_core.proofs.memfs.MemFs.new.Goals as goal

-- what the new tree stands for
stands : (t : FileTree) (item : Node) (now : ℕ) → t ≡ lone item → item ≡ new_folder now → Represents t (start now)
stands t item now e is = subst (λ t. Represents t (start now)) (sym e) (Represents-single now item is)

pub invariant_of-result : goal.invariant_of-result
invariant_of-result c =
    record {
      represents =
          stands_itself c.in_ok-tree.tree.keyed (start c.args.now.0) (stands c.in_ok-tree.tree.keyed c.new_folder.result c.args.now.0 c.in_ok-tree.ensures.answer.1 c.new_folder.ensures);
      indexed = subst (IsIndex c.in_ok-tree.tree.keyed) (sym c.new-2.ensures) (IsIndex-empty c.in_ok-tree.tree.keyed);
    }

pub returns-clause-answer : goal.returns-clause-answer
returns-clause-answer c = sym (is_view c.in_ok-tree.tree.keyed (start c.args.now.0) (stands c.in_ok-tree.tree.keyed c.new_folder.result c.args.now.0 c.in_ok-tree.ensures.answer.1 c.new_folder.ensures))

pub returns-clause-shape : goal.returns-clause-shape
returns-clause-shape c = (invariant_of-result c).represents.is_map
