-- The folders of an index, as the code's map has them.
use Rattle.std.proofs.Common.{◌≡◌, ℕ, nat_eq, cond, is_some, List, Option, Some, None, sym, ap, ◌∙◌}
use Rattle.std.specs.Ordering.{nat_cmp, eq_by_cmp}
use Rattle.std.specs.Cmp.{nat_cmp_total, unsigned_tied}
use Rattle.std.specs.FinMap.{get, insert, remove, get-from_entries, get-insert, get-remove, same_map, nat_cmp-IsAntisymmetric}
use Rattle.std.specs.HashMap.{HashMap, Updates, WritesThrough}
use Rattle.std.specs.Map.{lookup}
use Rattle.std.proofs.lemmas.Cmp.{nat_eq_equiv}
use Rattle.dav_path_core.specs.ChildIndex.{NumbersByName}
use Rattle.dav_path_core.specs.Private.ChildNames.{index_of}
use Rattle.dav_path_core.proofs.children.Views.{find-lookup}

pub get-index : (es : List (ℕ × NumbersByName)) (q : ℕ) → get (index_of es) q ≡ lookup (nat_eq q) es
get-index es q = get-from_entries nat_cmp_total es q ∙ find-lookup q es

module _ {S : Type 0} (m n : HashMap ℕ NumbersByName S) (p : ℕ) where
  updated : (w : Option NumbersByName) → Updates nat_eq m n p w → (q : ℕ) → get (index_of n.entries) q ≡ cond (eq_by_cmp nat_cmp q p) w (get (index_of m.entries) q)
  updated w h q =
      get-index n.entries q ∙ h.0 q ∙ ap (λ b. cond b w (lookup (nat_eq q) m.entries)) (nat_eq_equiv.symm p q ∙ sym (unsigned_tied q p))
      ∙ ap (cond (eq_by_cmp nat_cmp q p) w) (sym (get-index m.entries q))

  pub index-insert : (v : NumbersByName) → Updates nat_eq m n p (Some v) → index_of n.entries ≡ insert (index_of m.entries) p v
  index-insert v h = same_map nat_cmp_total nat_cmp-IsAntisymmetric (index_of n.entries) (insert (index_of m.entries) p v) (λ q. updated (Some v) h q ∙ sym (get-insert nat_cmp_total (index_of m.entries) p v q))

  pub index-remove : Updates nat_eq m n p None → index_of n.entries ≡ remove (index_of m.entries) p
  index-remove h = same_map nat_cmp_total nat_cmp-IsAntisymmetric (index_of n.entries) (remove (index_of m.entries) p) (λ q. updated None h q ∙ sym (get-remove nat_cmp_total (index_of m.entries) p q))

  pub index-written : (t u : NumbersByName) → Some t ≡ lookup (nat_eq p) m.entries → WritesThrough nat_eq (nat_eq p) m u n → index_of n.entries ≡ insert (index_of m.entries) p u
  index-written t u at h = index-insert u (h.3 (ap is_some (sym at)))
