use Rattle.std.proofs.Common.{Result, Ok, Err, MatchResult, sym, ap, ◌∙◌, subst}
use Rattle.std.specs.FinMap.{remove}
use Rattle.dav_path_core.specs.ChildIndex.{IsIndex, without_noted}
use Rattle.dav_path_core.specs.Keyed.{without_node}
use Rattle.dav_path_core.proofs.trees.Trees.{none≢some}
use Rattle.dav_path_core.proofs.index.IndexLemmas.{IsIndex-without, IsIndex-dropped}
use Rattle.dav_path_core.proofs.child_index.ChildIndex.delete_node.Goals as goal

-- what nothing refuses is done
done : {T E : Type 0} (A B : T → Type 0) (C : Type 0) (Q : E → Type 0) (r : Result T E) → MatchResult r (λ x. A x × B x × C) Q → ((e : E) → Q e → ⊥) → C
done A B C Q (Ok x) h never = h.2
done A B C Q (Err e) h never = absurd (never e h)

pub returns-clause-indexed : goal.returns-clause-indexed
returns-clause-indexed g c =
    let t = c.args.tree.now.keyed in
    let ix = c.args.self.now in
    let is = c.in_ok-folder.ensures.answer in
    let index : IsIndex (without_node t c.args.id) (remove (without_noted ix c.in_ok-folder.folder c.in_ok-folder.name.now) c.args.id) =
    IsIndex-dropped (without_node t c.args.id) (without_noted ix c.in_ok-folder.folder c.in_ok-folder.name.now) c.args.id (IsIndex-without t c.leaf_at.ensures.shape.tree c.args.id c.in_ok-folder.folder c.in_ok-folder.name.now ix is.1 c.requires.indexed) in
    subst (λ u. IsIndex u c.drop_folder.new.self) (sym (done _ _ _ _ c.delete_node.result c.delete_node.ensures.answer (λ e h. none≢some e (sym is.0 ∙ h.0))))
    (subst (IsIndex (without_node t c.args.id)) (sym (c.drop_folder.ensures ∙ ap (λ x. remove x c.args.id) (c.forget.ensures ∙ ap (without_noted ix c.in_ok-folder.folder) c.as_slice.ensures))) index)
