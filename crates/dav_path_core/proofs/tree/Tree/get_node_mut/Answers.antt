use Rattle.std.proofs.Common.{◌≡◌, subst, sym, ap, ◌∙◌, refl, Some, None, inl, inr, ◌⊎◌}
use Rattle.std.specs.Option.{option_map}
use Rattle.dav_path_core.specs.Keyed.{item, entry, with_item, with_item_at}
use Rattle.dav_path_core.specs.TreeValue.{TreeValue, IsTreeValue}
use Rattle.dav_path_core.specs.View.{tree_value_of}
use Rattle.dav_path_core.proofs.children.Views.{tree_value-write, entry-view}
use Rattle.dav_path_core.proofs.children.Links.{IsLinked-write, shape_of}
use Rattle.dav_path_core.proofs.tree.Tree.get_node_mut.Goals as goal

lent : {N A B C : Type 0} {n : N} {f h : A → B} → ((w : A) → f w ≡ h w) → ◌≡◌ {A = (N × (A → B)) ⊎ C} (inl (n, f)) (inl (n, h))
lent {n = n} e = λ i. inl (n, λ w. e w i)

pub invariant_of-self-lent : goal.invariant_of-self-lent
invariant_of-self-lent g c =
    λ w. IsLinked-write g.K.PartialEq.eq c.self.inside.nodes (c.get_mut.follows.lender (record c.in-Some.node.now { item = w })) c.self.inside.next c.args.id c.in-Some.node.now w c.in-Some.ensures.value
    (c.get_mut.follows.holds (record c.in-Some.node.now { item = w })) c.self.invariant

pub returns-in-Some : goal.returns-in-Some
returns-in-Some g c =
    let set : TreeValue g.row.K.Denot g.row.D.Denot → g.row.D.Denot → TreeValue g.row.K.Denot g.row.D.Denot = λ t w. record t { keyed = with_item t.keyed c.args.id w } in
    let written : (w : g.row.D.Denot) → tree_value_of (c.get_mut.follows.lender (record c.in-Some.node.now { item = w })).entries c.self.inside.next ≡ set c.args.self.now w =
    λ w. tree_value-write c.self.inside.nodes (c.get_mut.follows.lender (record c.in-Some.node.now { item = w })) c.self.inside.next c.args.id c.in-Some.node.now w c.in-Some.ensures.value
    (c.get_mut.follows.holds (record c.in-Some.node.now { item = w })) ∙ ap (λ t. set t w) c.self.view_is in (
      lent written,
      record {
        writes_back = tt;
        value = ap (λ t. item t.keyed c.args.id) (sym c.self.view_is)
            ∙ ap (option_map (λ e. e.item)) (entry-view c.self.inside.nodes.entries c.self.inside.next c.args.id (Some c.in-Some.node.now) c.in-Some.ensures.value);
        shape = shape_of c.self.invariant c.self.view_is;
        shape_after = λ w. shape_of (IsLinked-write g.K.PartialEq.eq c.self.inside.nodes (c.get_mut.follows.lender (record c.in-Some.node.now { item = w })) c.self.inside.next c.args.id c.in-Some.node.now w c.in-Some.ensures.value
            (c.get_mut.follows.holds (record c.in-Some.node.now { item = w })) c.self.invariant) (written w);
      },
    )

pub returns-in-None : goal.returns-in-None
returns-in-None g c = (
  ap inr (ap (λ m. tree_value_of m.entries c.self.inside.next) c.get_mut.follows.holds-at-none ∙ c.self.view_is),
  record {
    writes_back = tt;
    value = (
      refl,
      ap (λ t. item t.keyed c.args.id) (sym c.self.view_is)
          ∙ ap (option_map (λ e. e.item)) (entry-view c.self.inside.nodes.entries c.self.inside.next c.args.id None c.in-None.ensures.value),
    );
    shape = shape_of c.self.invariant c.self.view_is;
    shape_after = λ w.
        let gone : entry c.args.self.now.keyed c.args.id ≡ None = ap (λ t. entry t.keyed c.args.id) (sym c.self.view_is) ∙ entry-view c.self.inside.nodes.entries c.self.inside.next c.args.id None c.in-None.ensures.value in
        subst (λ o. IsTreeValue g.K.PartialEq.eq (record c.args.self.now { keyed = with_item_at c.args.self.now.keyed c.args.id o w })) (sym gone) (shape_of c.self.invariant c.self.view_is);
  },
)
