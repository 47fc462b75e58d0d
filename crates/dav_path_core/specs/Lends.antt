-- What a tree holds once a reference into it has ended (own).
use Rattle.std.specs.Prelude.{ℕ, Result}
use Rattle.std.specs.Borrow.{Fml, RattleType, MutBor, LendsIfOk}
use Rattle.std.specs.HashMap.Lent.{HashMembers}
use Rattle.dav_path_core.specs.Keyed.{with_item}
use Rattle.dav_path_core.specs.TreeValue.{TreeValue}
use Rattle.dav_path_core.specs.contracts.tree.Tree.{the_row}

module _ (K D : RattleType) (key : HashMembers K.Denot) where
  abbrev pub tree_row : RattleType
  tree_row = the_row K D (record { eq = key.eq }) (record { hash_input = key.hash_input })

  -- the node at n has the last item written through r, and at an error the tree stays
  abbrev pub lends_item : {E : Type 0} → MutBor (TreeValue K.Denot D.Denot) → ℕ → Result (MutBor D.Denot) E → Fml
  lends_item t n r = LendsIfOk tree_row D t r (λ d. record t.now { keyed = with_item t.now.keyed n d }) t.now
