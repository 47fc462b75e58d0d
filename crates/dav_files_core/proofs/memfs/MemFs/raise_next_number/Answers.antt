use Rattle.std.proofs.Common.{◌≡◌, sym, ap, subst}
use Rattle.dav_path_core.specs.ChildIndex.{IsIndex}
use Rattle.dav_path_core.specs.Keyed.{with_next_at_least}
use Rattle.dav_path_core.specs.TreeValue.{TreeValue}
use Rattle.dav_path_core.specs.Fronts.{Segment}
use Rattle.dav_files_core.specs.Resources.{Node}
use Rattle.dav_files_core.specs.Private.FileRepresents.{Represents, resource_map}
use Rattle.dav_files_core.proofs.changes.LeftLemmas.{stands_itself}
use Rattle.dav_files_core.proofs.changes.RestoredLemmas.{Represents-raised}
use Rattle.dav_files_core.proofs.memfs.MemFs.raise_next_number.Goals as goal

pub invariant_of-self : goal.invariant_of-self
invariant_of-self c =
    let t = c.self.inside.tree.keyed in
    let is : c.raise_next_number.new.self.keyed ≡ with_next_at_least t c.args.next = ap (λ (v : TreeValue Segment Node). v.keyed) c.raise_next_number.ensures.raised in
    record {
      represents = subst (λ u. Represents u (resource_map u)) (sym is) (stands_itself (with_next_at_least t c.args.next) _ (Represents-raised t (resource_map t) c.self.invariant.represents c.args.next));
      indexed = subst (λ u. IsIndex u c.self.inside.index) (sym is) c.self.invariant.indexed;
    }

pub returns-clause-shape : goal.returns-clause-shape
returns-clause-shape c = (invariant_of-self c).represents.is_map
