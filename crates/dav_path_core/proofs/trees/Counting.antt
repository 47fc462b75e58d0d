-- How many nodes a tree has.
use Rattle.std.proofs.Common.{◌≡◌, ℕ, ◌<◌, ◌≤◌, Bool, true, false, T, is_some, List, [], ◌∷◌, length, None, ap, sym, ◌∙◌, arith, eqb}
use Rattle.std.specs.Ordering.{nat_cmp}
use Rattle.std.specs.FinMap.{FinMap, get, entries, entries_sorted, is_sorted, get-entries, len, len-entries}
use Rattle.std.specs.FinMap.Entries.{below_all}
use Rattle.std.specs.List.{list_any, AllByRecursion, IsDistinct}
use Rattle.std.specs.Map.{keys_of, lookup}
use Rattle.std.proofs.lemmas.Bool.{ne_eqb}
use Rattle.std.proofs.lemmas.Cmp.{nat_eq_equiv}
use Rattle.std.proofs.lemmas.Map.Entries.{length-keys_of}
use Rattle.std.proofs.lemmas.Map.Keys.{IsDistinct-cons}
use Rattle.std.proofs.lemmas.Map.Made.{is_some-lookup, length-le_from_is_member, length-from_same_keys}
use Rattle.dav_path_core.specs.declared.tree.Node.{Node}
use Rattle.dav_path_core.specs.Keyed.{Keyed, LeadsToRoot, entry, parent_number, IsKnown, IsTree}
use Rattle.dav_path_core.specs.View.{entry_of, keyed_of}
use Rattle.dav_path_core.proofs.lists.Every.{first_so, second_so}
use Rattle.dav_path_core.proofs.children.Chains.{no_distinct}
use Rattle.dav_path_core.proofs.children.Views.{find-lookup, get-seen, mapped-some}
use Rattle.dav_path_core.proofs.trees.KeyedDepth.{depth, way, length-way, once, on_way, top, known_leads}
use Rattle.dav_path_core.proofs.trees.Trees.{is_lt-below}

module _ {X : Type 0} where
  apart_from_later : (k : ℕ) (es : List (ℕ × X)) → T (below_all nat_cmp k es) → AllByRecursion (λ y. eqb k y ≡ false) (keys_of es)
  apart_from_later k [] h = tt
  apart_from_later k (e ∷ es) h =
      let lt : k < e.0 = is_lt-below k e.0 (first_so _ _ h) in
      (ne_eqb k e.0 (λ i. omega (arith, lt, i)), apart_from_later k es (second_so _ _ h))

  distinct_keys : (es : List (ℕ × X)) → T (is_sorted nat_cmp es) → IsDistinct eqb (keys_of es)
  distinct_keys [] h = no_distinct
  distinct_keys (e ∷ es) h = IsDistinct-cons eqb e.0 (keys_of es) (apart_from_later e.0 es (first_so _ _ h)) (distinct_keys es (second_so _ _ h))

  -- a map has the numbers at which something stands
  has_key : (m : FinMap nat_cmp X) (q : ℕ) → list_any (eqb q) (keys_of (entries m)) ≡ is_some (get m q)
  has_key m q = sym (is_some-lookup (eqb q) (entries m)) ∙ ap is_some (sym (get-entries m q ∙ find-lookup q (entries m)))

module _ {K D : Type 0} where
  -- the numbers of a tree's nodes
  abbrev pub numbers : Keyed K D → List ℕ
  numbers t = keys_of (entries t.nodes)

  pub numbers-distinct : (t : Keyed K D) → IsDistinct eqb (numbers t)
  numbers-distinct t = distinct_keys (entries t.nodes) (entries_sorted t.nodes)

  pub numbers-known : (t : Keyed K D) (q : ℕ) → list_any (eqb q) (numbers t) ≡ is_some (entry t q)
  numbers-known t q = has_key t.nodes q

  pub numbers-length : (t : Keyed K D) → length (numbers t) ≡ len t.nodes
  numbers-length t = length-keys_of (entries t.nodes) ∙ sym (len-entries t.nodes)

  -- numbers of nodes with no two equal are no more than there are nodes
  pub at_most_count : (t : Keyed K D) (ns : List ℕ) → IsDistinct eqb ns → ((q : ℕ) → list_any (eqb q) ns ≡ true → IsKnown t q) → length ns ≤ len t.nodes
  at_most_count t ns once known =
      let less : length ns ≤ length (numbers t) = length-le_from_is_member nat_eq_equiv ns (numbers t) once (λ q h. numbers-known t q ∙ known q h) in
      omega (arith, less, numbers-length t)

  -- the way from a node up to the root is shorter than there are nodes
  pub way_short : (eq : K → K → Bool) (t : Keyed K D) → IsTree eq t → (n : ℕ) (l : LeadsToRoot (parent_number t) n) → depth l < len t.nodes
  way_short eq t tree n l =
      let up : parent_number t 1 ≡ None = top eq t tree in
      let fits : length (way l) ≤ len t.nodes = at_most_count t (way l) (once (parent_number t) up l) (λ q h. known_leads eq t tree q (on_way (parent_number t) up l q h).0) in
      omega (arith, fits, length-way l)

  -- the nodes of the view are as many as its entries
  pub count-view : (es : List (ℕ × Node K D)) (next : ℕ) → IsDistinct eqb (keys_of es) → len (keyed_of es next).nodes ≡ length es
  count-view es next once =
      let m = (keyed_of es next).nodes in
      len-entries m ∙ sym (length-keys_of (entries m))
      ∙ length-from_same_keys nat_eq_equiv (keys_of (entries m)) (keys_of es) (distinct_keys (entries m) (entries_sorted m)) once
      (λ q. has_key m q ∙ ap is_some (get-seen entry_of es q) ∙ mapped-some entry_of (lookup (eqb q) es) ∙ is_some-lookup (eqb q) es)
      ∙ length-keys_of es
