-- The paths that lead to what stands at and below a node of the tree of locks.
use Rattle.std.proofs.Common.{◌≡◌, ℕ, true, [], ◌∷◌, ◌++◌, Option, Some, None, refl, sym, ap, ◌∙◌, subst}
use Rattle.std.specs.Prelude.{option_and_then}
use Rattle.std.specs.Option.{option_map}
use Rattle.std.proofs.lemmas.Bool.{false≢true}
use Rattle.dav_path_core.specs.Fronts.{Segment, Path, is_front}
use Rattle.dav_path_core.specs.Keyed.{Under, here, below, entry, parent_number, IsKnown, IsTree}
use Rattle.dav_path_core.proofs.paths.FrontLemmas.{is_front-parts, is_front-cons}
use Rattle.dav_path_core.proofs.trees.Cutting.{Under-trans}
use Rattle.dav_path_core.proofs.trees.KeyedCuts.{parent_child}
use Rattle.dav_path_core.proofs.trees.Trees.{none≢some, same_some, known_from_child}
use Rattle.dav_path_core.proofs.walks.AboveLemmas.{known_under}
use Rattle.dav_locks_core.specs.Private.LockTree.{LockTree, is_segment, child_at, node_below}
use Rattle.dav_locks_core.proofs.trees.WayLemmas.{child_at-is, child_at-from, one_path}

pub is_front-append : (p q : Path) → is_front p (p ++ q) ≡ true
is_front-append [] q = refl
is_front-append (s ∷ p) q = is_front-cons s s p (p ++ q) refl (is_front-append p q)

module _ (t : LockTree) where
  pub node_at-append : (n : ℕ) (p q : Path) → node_below t n (p ++ q) ≡ option_and_then (λ m. node_below t m q) (node_below t n p)
  unfolding node_below
  node_at-append n [] q = refl
  node_at-append n (s ∷ p) q = by (λ c. node_at-append c p q) (child_at t n s)
    where
      by : ((c : ℕ) → node_below t c (p ++ q) ≡ option_and_then (λ m. node_below t m q) (node_below t c p))
          → (o : Option ℕ) → option_and_then (λ c. node_below t c (p ++ q)) o ≡ option_and_then (λ m. node_below t m q) (option_and_then (λ c. node_below t c p) o)
      by rec None = refl
      by rec (Some c) = rec c

  pub node_at-step : (n c : ℕ) (s : Segment) (p : Path) → child_at t n s ≡ Some c → node_below t n (s ∷ p) ≡ node_below t c p
  unfolding node_below
  node_at-step n c s p e = ap (λ o. option_and_then (λ c. node_below t c p) o) e

  pub node_at-stuck : (n : ℕ) (s : Segment) (p : Path) → child_at t n s ≡ None → node_below t n (s ∷ p) ≡ None
  unfolding node_below
  node_at-stuck n s p e = ap (λ o. option_and_then (λ c. node_below t c p) o) e

  pub node_at-here : (n : ℕ) → node_below t n [] ≡ Some n
  unfolding node_below
  node_at-here n = refl

  pub is_parent : (n c : ℕ) (s : Segment) → child_at t n s ≡ Some c → parent_number t c ≡ Some n
  is_parent n c s e = ap (option_map (λ q. q.0)) (child_at-is t n s c e)

  -- a way leads below
  pub way_under : (n m : ℕ) (p : Path) → node_below t n p ≡ Some m → Under (parent_number t) n m
  unfolding node_below
  way_under n m [] h = subst (λ v. Under (parent_number t) n v) (same_some n m h) here
  way_under n m (s ∷ p) h = by (λ c. way_under c m p) (child_at t n s) refl h
    where
      by : ((c : ℕ) → node_below t c p ≡ Some m → Under (parent_number t) c m) → (o : Option ℕ) → child_at t n s ≡ o → option_and_then (λ c. node_below t c p) o ≡ Some m → Under (parent_number t) n m
      by rec None e h = absurd (none≢some m h)
      by rec (Some c) e h = Under-trans (below (is_parent n c s e) here) (rec c h)

  -- a way leads to a known number
  pub way_known : (n m : ℕ) (p : Path) → IsKnown t n → node_below t n p ≡ Some m → IsKnown t m
  unfolding node_below
  way_known n m [] known h = subst (IsKnown t) (same_some n m h) known
  way_known n m (s ∷ p) known h = by (λ c. way_known c m p) (child_at t n s) refl h
    where
      by : ((c : ℕ) → IsKnown t c → node_below t c p ≡ Some m → IsKnown t m) → (o : Option ℕ) → child_at t n s ≡ o → option_and_then (λ c. node_below t c p) o ≡ Some m → IsKnown t m
      by rec None e h = absurd (none≢some m h)
      by rec (Some c) e h = rec c (known_from_child t n s c (child_at-is t n s c e)) h

  -- the way to a path goes through the nodes of its fronts
  pub through : (n m : ℕ) (p q : Path) → is_front p q ≡ true → node_below t n q ≡ Some m → (k : ℕ) × (node_below t n p ≡ Some k) × Under (parent_number t) k m
  unfolding node_below
  through n m [] q f h = (n, refl, way_under n m q h)
  through n m (s ∷ p) [] f h = absurd (false≢true f)
  through n m (s ∷ p) (r ∷ q) f h = by (λ c. through c m p q parts.1) (child_at t n s) refl (subst (λ r. node_below t n (r ∷ q) ≡ Some m) (sym parts.0) h)
    where
      parts : (s ≡ r) × (is_front p q ≡ true)
      parts = is_front-parts s r p q f

      by : ((c : ℕ) → node_below t c q ≡ Some m → (k : ℕ) × (node_below t c p ≡ Some k) × Under (parent_number t) k m)
          → (o : Option ℕ) → child_at t n s ≡ o → option_and_then (λ c. node_below t c q) o ≡ Some m → (k : ℕ) × (node_below t n (s ∷ p) ≡ Some k) × Under (parent_number t) k m
      by rec None e h = absurd (none≢some m h)
      by rec (Some c) e h =
          let w = rec c h in
          (w.0, ap (λ o. option_and_then (λ c. node_below t c p) o) e ∙ w.1, w.2)

-- a way stays
-- a way stays
pub way_stays : (t u : LockTree) → ((n c : ℕ) (s : Segment) → child_at t n s ≡ Some c → child_at u n s ≡ Some c) → (n m : ℕ) (p : Path) → node_below t n p ≡ Some m → node_below u n p ≡ Some m
unfolding node_below
way_stays t u ways n m [] h = h
way_stays t u ways n m (s ∷ p) h = by (λ c. way_stays t u ways c m p) (child_at t n s) refl h
  where
    by : ((c : ℕ) → node_below t c p ≡ Some m → node_below u c p ≡ Some m) → (o : Option ℕ) → child_at t n s ≡ o → option_and_then (λ c. node_below t c p) o ≡ Some m → option_and_then (λ c. node_below u c p) (child_at u n s) ≡ Some m
    by rec None e h = absurd (none≢some m h)
    by rec (Some c) e h = ap (λ o. option_and_then (λ c. node_below u c p) o) (ways n c s e) ∙ rec c h

module _ (t : LockTree) (tree : IsTree is_segment t) where
  -- a way leads to each number below
  pub way_down : (n m : ℕ) → Under (parent_number t) n m → (p : Path) × (node_below t n p ≡ Some m)
  way_down n m here = ([], node_at-here t n)
  way_down n m (below {p = r} e u) =
      let w = way_down n r u in
      let k = parent_child (entry t m) r e in (
        w.0 ++ k.0 ∷ [],
        node_at-append t n w.0 (k.0 ∷ []) ∙ ap (λ o. option_and_then (λ v. node_below t v (k.0 ∷ [])) o) w.1
            ∙ node_at-step t r m k.0 [] (child_at-from t tree r k.0 m k.1) ∙ node_at-here t m,
      )

  -- so a way leads to each node from the root
  pub way_to : (n : ℕ) → IsKnown t n → (p : Path) × (node_below t 1 p ≡ Some n)
  way_to n known = way_down 1 n (known_under is_segment t tree n known)

  -- where the way to one path leads below that to another, this is a front of it
  pub front_of : (n m : ℕ) (p q : Path) → node_below t 1 p ≡ Some n → node_below t 1 q ≡ Some m → Under (parent_number t) n m → is_front p q ≡ true
  front_of n m p q h k u =
      let w = way_down n m u in
      let longer : node_below t 1 (p ++ w.0) ≡ Some m = node_at-append t 1 p w.0 ∙ ap (λ o. option_and_then (λ v. node_below t v w.0) o) h ∙ w.1 in
      subst (λ r. is_front p r ≡ true) (one_path t tree (p ++ w.0) q m longer k) (is_front-append p w.0)
