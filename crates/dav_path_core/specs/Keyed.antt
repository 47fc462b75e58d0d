-- The keyed tree: a finite map from numbers to parent, key and item, and the next number. Number 1 is the root (own).
use Rattle.std.specs.Prelude.{◌≡◌, ℕ, ◌+◌, max, ◌<◌, ◌==◌, ◌&&◌, ◌||◌, not, zero, suc, Bool, true, false, if◌then◌else◌, List, [], ◌∷◌, Option, Some, None, IsSome, is_some, eqb, refl}
use Rattle.std.specs.List.{list_any}
use Rattle.std.specs.Option.{option_map}
use Rattle.std.specs.Ordering.{nat_cmp}
use Rattle.std.specs.Coded.{Coded, code_by, coded×, coded_ℕ, coded_option}
use Rattle.std.specs.FinMap.{FinMap, entries, get, insert, remove, retain_keys, code, empty}
use Rattle.dav_path_core.specs.declared.errors.FsError.{FsError}
use Rattle.dav_path_core.specs.declared.errors.FsError.TheVariants.{Exists, NotFound, Forbidden}

-- a node: the number of its parent and its key there, which the root has not, and its item
pub record Entry (K D : Type 0) : Type 0 where
  pub parent_and_key : Option (ℕ × K)
  pub item : D

pub record Keyed (K D : Type 0) : Type 0 where
  pub nodes : FinMap nat_cmp (Entry K D)
  pub next : ℕ

-- the codes that a model needs of its value
abbrev pub entry_code : {K D : Type 0} → Coded K → Coded D → Coded (Entry K D)
entry_code {K} {D} k d =
    code_by (Option (ℕ × K) × D) (coded× (coded_option (coded× coded_ℕ k)) d) (λ e. (e.parent_and_key, e.item)) (λ p. record { parent_and_key = p.0; item = p.1 }) (λ _. refl)

abbrev pub keyed_code : {K D : Type 0} → Coded K → Coded D → Coded (Keyed K D)
keyed_code {K} {D} k d =
    code_by (FinMap nat_cmp (Entry K D) × ℕ) (coded× (code coded_ℕ (entry_code k d)) coded_ℕ) (λ t. (t.nodes, t.next)) (λ p. record { nodes = p.0; next = p.1 }) (λ _. refl)

-- n is among ks
abbrev pub IsIn : ℕ → List ℕ → Type 0
IsIn n ks = list_any (eqb n) ks ≡ true

-- numbers are from 1 to 2^64 - 2
abbrev pub is_out_of_range : ℕ → Bool
is_out_of_range n = (n == 0) || (n == 18446744073709551615)

-- n leads to 1 by the parents that f gives
pub data LeadsToRoot (f : ℕ → Option ℕ) : ℕ → Type 0 where
  root : LeadsToRoot f 1
  up : {n p : ℕ} → f n ≡ Some p → LeadsToRoot f p → LeadsToRoot f n

-- k is n or leads to it by the parents that f gives
pub data Under (f : ℕ → Option ℕ) (n : ℕ) : ℕ → Type 0 where
  here : Under f n n
  below : {k p : ℕ} → f k ≡ Some p → Under f n p → Under f n k

-- whether the parent is p and the key passes the test
abbrev pub matches_parent_and_key : {K : Type 0} → (K → Bool) → ℕ → Option (ℕ × K) → Bool
matches_parent_and_key test p None = false
matches_parent_and_key test p (Some q) = (q.0 == p) && test q.1

-- whether n is met on the way from k by f, looking at no more than so many numbers
abbrev pub meets : (ℕ → Option ℕ) → ℕ → ℕ → ℕ → Bool
meets f zero n k = false
meets f (suc m) n k = (k == n) || elim (f k) [ None ↦ false | Some p ↦ meets f m n p ]

module _ {K D : Type 0} where
  -- what stands at a number
  abbrev pub entry : Keyed K D → ℕ → Option (Entry K D)
  entry t n = get t.nodes n

  -- something stands at the number
  abbrev pub IsKnown : Keyed K D → ℕ → Type 0
  IsKnown t n = IsSome (entry t n)

  -- the item of a number
  abbrev pub item : Keyed K D → ℕ → Option D
  item t n = option_map (λ e. e.item) (entry t n)

  -- the parent and key of an entry, if it has them
  abbrev pub parent_and_key_of : Option (Entry K D) → Option (ℕ × K)
  parent_and_key_of None = None
  parent_and_key_of (Some e) = e.parent_and_key

  -- the parent and key of a number; none for the root and for an unknown one
  abbrev pub parent_and_key : Keyed K D → ℕ → Option (ℕ × K)
  parent_and_key t n = parent_and_key_of (entry t n)

  -- the parent of a number
  abbrev pub parent_number : Keyed K D → ℕ → Option ℕ
  parent_number t n = option_map (λ q. q.0) (parent_and_key t n)

  -- n is the child of p at the key k
  abbrev pub IsChild : Keyed K D → ℕ → K → ℕ → Type 0
  IsChild t p k n = parent_and_key t n ≡ Some (p, k)

  -- the same over a list of entries: the first that passes
  abbrev pub child_in : (K → Bool) → ℕ → List (ℕ × Entry K D) → Option ℕ
  child_in test p [] = None
  child_in test p (e ∷ es) = if matches_parent_and_key test p e.1.parent_and_key then Some e.0 else child_in test p es

  -- the child of p whose key passes the test
  abbrev pub child : (K → Bool) → Keyed K D → ℕ → Option ℕ
  child test t p = child_in test p (entries t.nodes)

  -- the one node, at number 1
  abbrev pub lone : D → Keyed K D
  lone d = record { nodes = insert empty 1 (record { parent_and_key = None; item = d }); next = 2 }

  -- t with a new node n below p at k, and with that next number
  abbrev pub add_as : Keyed K D → ℕ → ℕ → ℕ → K → D → Keyed K D
  add_as t n next p k d = record { nodes = insert t.nodes n (record { parent_and_key = Some (p, k); item = d }); next = next }

  -- t with a new node below p at k
  abbrev pub add : Keyed K D → ℕ → K → D → Keyed K D
  add t p k d = add_as t t.next (t.next + 1) p k d

  -- no number below that is given any more
  abbrev pub with_next_at_least : Keyed K D → ℕ → Keyed K D
  with_next_at_least t next = record t { next = max t.next next }

  -- t with a node below p at k that has its number already; the next one is above it
  abbrev pub with_restored_node : Keyed K D → ℕ → K → D → ℕ → Keyed K D
  with_restored_node t p k d n = add_as t n (max t.next (n + 1)) p k d

  -- why such a node can't be added
  abbrev pub restore_refusal : Keyed K D → ℕ → ℕ → Option FsError
  restore_refusal t p n =
      if is_some (entry t p)
      then (if is_some (entry t n) then Some Exists
      else (if is_out_of_range n then Some Forbidden else None))
      else Some NotFound

  -- t with another item at n
  abbrev pub with_item_at : Keyed K D → ℕ → Option (Entry K D) → D → Keyed K D
  with_item_at t n None d = t
  with_item_at t n (Some e) d = record t { nodes = insert t.nodes n (record e { item = d }) }

  abbrev pub with_item : Keyed K D → ℕ → D → Keyed K D
  with_item t n d = with_item_at t n (entry t n) d

  -- what a tree keeps: the root has no parent; numbers are below the next; from each the parents lead to 1; no two
  -- entries have equal parents and equal keys
  pub record IsTree (eq : K → K → Bool) (t : Keyed K D) : Type 0 where
    pub root : IsKnown t 1 × (parent_and_key t 1 ≡ None)
    pub numbered : (n : ℕ) → IsKnown t n → (0 < n) × (n < t.next)
    pub attached : (n : ℕ) → IsKnown t n → LeadsToRoot (parent_number t) n
    pub distinct : (p : ℕ) (k l : K) (m n : ℕ) → IsChild t p k m → IsChild t p l n → eq k l ≡ true → m ≡ n

  -- whether k is n or leads to it
  abbrev pub is_under : Keyed K D → ℕ → ℕ → Bool
  is_under t n k = meets (parent_number t) t.next n k

  -- t without n and all that lead to it
  abbrev pub without_subtree : Keyed K D → ℕ → Keyed K D
  without_subtree t n = record t { nodes = retain_keys t.nodes (λ k. not (is_under t n k)) }

  -- u is t without the numbers whose parents lead to n, and those alone
  pub record IsCut (t u : Keyed K D) (n : ℕ) : Type 0 where
    pub gone : (q : ℕ) → Under (parent_number t) n q → entry u q ≡ None
    pub kept : (q : ℕ) → (Under (parent_number t) n q → ⊥) → entry u q ≡ entry t q
    pub next : u.next ≡ t.next

  -- why a child can't be added
  abbrev pub add_refusal : (K → K → Bool) → Keyed K D → ℕ → K → Bool → Option FsError
  add_refusal eq t p k overwrite =
      if is_some (entry t p)
      then (if is_some (child (eq k) t p) && not overwrite then Some Exists else None)
      else Some NotFound

  abbrev pub cleared_at : Keyed K D → Option ℕ → Keyed K D
  cleared_at t None = t
  cleared_at t (Some c) = without_subtree t c

  -- t without what stands below p at k
  abbrev pub without_key : (K → K → Bool) → Keyed K D → ℕ → K → Keyed K D
  without_key eq t p k = cleared_at t (child (eq k) t p)

  -- whether n is the parent of some number
  abbrev pub has_child : Keyed K D → ℕ → Bool
  has_child t n = is_some (child (λ _. true) t n)

  -- t without the one node n
  abbrev pub without_node : Keyed K D → ℕ → Keyed K D
  without_node t n = record t { nodes = remove t.nodes n }

  abbrev pub placed_at : Keyed K D → ℕ → ℕ → K → Option (Entry K D) → Keyed K D
  placed_at t n p k None = t
  placed_at t n p k (Some e) = record t { nodes = insert t.nodes n (record e { parent_and_key = Some (p, k) }) }

  -- t with n below p at k
  abbrev pub with_new_place : Keyed K D → ℕ → ℕ → K → Keyed K D
  with_new_place t n p k = placed_at t n p k (entry t n)

  -- why a node can't be deleted
  abbrev pub delete_refusal : Keyed K D → ℕ → Option FsError
  delete_refusal t n =
      if is_some (entry t n)
      then (if (n == 1) || has_child t n then Some Forbidden else None)
      else Some NotFound

  -- why a node can't be deleted with all that leads to it
  abbrev pub cut_refusal : Keyed K D → ℕ → Option FsError
  cut_refusal t n =
      if is_some (entry t n)
      then (if n == 1 then Some Forbidden else None)
      else Some NotFound

  -- whether a place is taken by a node that may not be replaced
  abbrev pub is_kept : Keyed K D → Bool → Option ℕ → Bool
  is_kept t overwrite None = false
  is_kept t overwrite (Some c) = not overwrite || has_child t c

  -- why n can't be moved to p at k
  abbrev pub move_refusal : (K → K → Bool) → Keyed K D → ℕ → ℕ → K → Bool → Option FsError
  move_refusal eq t n p k overwrite =
      if is_some (entry t n) && is_some (entry t p)
      then (if is_kept t overwrite (child (eq k) t p) then Some Exists
      else (if (n == 1) || is_under t n p then Some Forbidden else None))
      else Some NotFound

  abbrev pub moved_over : Keyed K D → ℕ → ℕ → K → Option ℕ → Keyed K D
  moved_over t n p k None = with_new_place t n p k
  moved_over t n p k (Some c) = if c == n then t else with_new_place (without_node t c) n p k

  -- t with n moved to p at k, where a node may stand that goes; if n is there already, t stays
  abbrev pub with_moved : (K → K → Bool) → Keyed K D → ℕ → ℕ → K → Keyed K D
  with_moved eq t n p k = moved_over t n p k (child (eq k) t p)
