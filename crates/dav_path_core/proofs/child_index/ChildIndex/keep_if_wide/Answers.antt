use Rattle.std.proofs.Common.{sym, subst, inl, inr}
use Rattle.dav_path_core.specs.ChildIndex.{IsIndex}
use Rattle.dav_path_core.proofs.index.IndexLemmas.{IsIndex-kept}
use Rattle.dav_path_core.proofs.child_index.ChildIndex.keep_if_wide.Goals as goal

pub returns-in-Some : goal.returns-in-Some
returns-in-Some g c = record {
  indexed = elim c.keep.ensures [
    | inl e ↦ subst (IsIndex c.args.tree.now.keyed) (sym e) (IsIndex-kept c.args.tree.now.keyed c.args.self.now c.args.folder c.in-Some.names c.in-Some.ensures c.requires.indexed)
    | inr e ↦ subst (IsIndex c.args.tree.now.keyed) (sym e) c.requires.indexed
  ];
}
