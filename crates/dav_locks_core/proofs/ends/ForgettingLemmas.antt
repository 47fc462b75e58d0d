-- A walk below a node that forgets the locks there.
use Rattle.std.proofs.Common.{◌≡◌, inl, inr, ℕ, zero, suc, ◌+◌, ◌<◌, List, [], ◌∷◌, length, get_or, Option, Some, None, refl, sym, ap, ◌∙◌, subst, arith}
use Rattle.std.specs.Ordering.{nat_cmp}
use Rattle.std.specs.FinMap.{find}
use Rattle.std.proofs.lemmas.Bool.{cases_eq}
use Rattle.dav_path_core.specs.Keyed.{Under, IsKnown, parent_number}
use Rattle.dav_path_core.specs.TreeValue.{IsTreeValue}
use Rattle.dav_path_core.proofs.trees.Trees.{same_some, none≢some}
use Rattle.dav_locks_core.specs.Lock.{Lock}
use Rattle.dav_locks_core.specs.Private.NotedEnds.{Ends, noted_node, IsKeyOf, Notes, ForgetsFirst, ForgetsEnds, AreEndsNoted}
use Rattle.dav_locks_core.specs.Private.LockTree.{NumberedLock, is_segment, locks_at}
use Rattle.dav_path_core.specs.Walking.{WalkGoesOn, IsWalkOver}
use Rattle.dav_locks_core.specs.Private.SubtreeWalks.{LinkedLocks}
use Rattle.dav_locks_core.proofs.lists.NumberedLemmas.{InOrder, place_of_found, found_at_place}
use Rattle.dav_path_core.proofs.walks.WalkLemmas.{Walked, walk_from, walk_on, walk_over, walk_weaker}

-- ---- the locks of a list

pub forgets_none : (granted : List NumberedLock) (ends : Ends) → ForgetsFirst granted 0 ends ends
forgets_none granted ends = record {
  only = λ k g n h. h;
  gone = λ i k d lt key. absurd (omega (arith, lt));
  kept = λ k g n h apart. h;
}

any_default : (granted : List NumberedLock) (i : ℕ) (d f : NumberedLock) → i < length granted → get_or granted i d ≡ get_or granted i f
any_default [] i d f lt = absurd (omega (arith, lt))
any_default (g ∷ granted) zero d f lt = refl
any_default (g ∷ granted) (suc i) d f lt = any_default granted i d f (omega (arith, lt))

-- one more
module _ (granted : List NumberedLock) (i : ℕ) (old mid new : Ends) (f : ForgetsFirst granted i old mid) (within : i < length granted) (g : NumberedLock) (is : g ≡ get_or granted i g) where
  last : (d : NumberedLock) → get_or granted i d ≡ g
  last d = any_default granted i d g within ∙ sym is

  module _ (notes : Notes mid new g.1.timeout_at g.0 None) where
    only_mid : (k : Option ℕ) (n m : ℕ) → noted_node new k n ≡ Some m → noted_node mid k n ≡ Some m
    only_mid k n m h = sym (notes.others k n (λ key j. none≢some m (sym (ap (noted_node new k) j ∙ notes.this k key) ∙ h))) ∙ h

    none_again : (k : Option ℕ) (n : ℕ) → noted_node mid k n ≡ None → noted_node new k n ≡ None
    none_again k n h = by (noted_node new k n) refl
      where
        by : (o : Option ℕ) → noted_node new k n ≡ o → noted_node new k n ≡ None
        by None j = j
        by (Some m) j = absurd (none≢some m (sym h ∙ only_mid k n m j))

    pub forgets_more : ForgetsFirst granted (i + 1) old new
    forgets_more = record {
      only = λ k n m h. f.only k n m (only_mid k n m h);
      gone = λ j k d lt key. elim (cases_eq j i) [
        | inl same ↦
            let here : get_or granted j d ≡ g = ap (λ j. get_or granted j d) same ∙ last d in
            ap (λ (g : NumberedLock). noted_node new k g.0) here ∙ notes.this k (subst (λ (g : NumberedLock). IsKeyOf g.1.timeout_at k) here key)
        | inr ne ↦ none_again k (get_or granted j d).0 (f.gone j k d (omega (arith, lt, ne)) key)
      ];
      kept = λ k n m h apart.
          notes.others k n (λ key j. apart i g (omega arith) (ap (λ (g : NumberedLock). g.0) (last g) ∙ sym j) (subst (λ (g : NumberedLock). IsKeyOf g.1.timeout_at k) (sym (last g)) key))
          ∙ f.kept k n m h (λ j d lt a b. apart j d (omega (arith, lt)) a b);
    }

-- ---- the walk

-- of what it has passed nothing is noted any more, and of what isn't below top all is
pub record WalksForgetting (t : LinkedLocks) (top : ℕ) (old new : Ends) (n turn : ℕ) : Type 0 where
  pub walked : Walked t top (λ q. (k : Option ℕ) (g : ℕ) (l : Lock) → find nat_cmp g (locks_at t.keyed q) ≡ Some l → IsKeyOf l.timeout_at k → noted_node new k g ≡ None) n turn
  pub only : (k : Option ℕ) (g m : ℕ) → noted_node new k g ≡ Some m → noted_node old k g ≡ Some m
  pub kept : (k : Option ℕ) (g m : ℕ) → noted_node old k g ≡ Some m → (Under (parent_number t.keyed) top m → ⊥) → noted_node new k g ≡ Some m

module _ (t : LinkedLocks) (shape : IsTreeValue is_segment t) (top : ℕ) (old : Ends) where
  abbrev pub Gone : Ends → ℕ → Type 0
  Gone ends q = (k : Option ℕ) (g : ℕ) (l : Lock) → find nat_cmp g (locks_at t.keyed q) ≡ Some l → IsKeyOf l.timeout_at k → noted_node ends k g ≡ None

  pub walks_from : IsKnown t.keyed top → WalksForgetting t top old old top 0
  walks_from known = record {
    walked = walk_from t shape top (Gone old) known;
    only = λ k g m h. h;
    kept = λ k g m h apart. h;
  }

  module _ (a : AreEndsNoted t.keyed old) (mid new : Ends) (n turn : ℕ) (w : WalksForgetting t top old mid n turn) (here : List NumberedLock) (at : here ≡ locks_at t.keyed n) (f : ForgetsFirst here (length here) mid new) where
    only_old : (k : Option ℕ) (g m : ℕ) → noted_node new k g ≡ Some m → noted_node old k g ≡ Some m
    only_old k g m h = w.only k g m (f.only k g m h)

    still_gone : (q : ℕ) → Gone mid q → Gone new q
    still_gone q gone k g l h key = by (noted_node new k g) refl
      where
        by : (o : Option ℕ) → noted_node new k g ≡ o → noted_node new k g ≡ None
        by None i = i
        by (Some m) i = absurd (none≢some m (sym (gone k g l h key) ∙ f.only k g m i))

    gone_here : Gone new n
    gone_here k g l h key =
        let p = place_of_found g l here (ap (find nat_cmp g) at ∙ h) in
        sym (ap (λ (x : NumberedLock). noted_node new k x.0) (p.2 (g, l))) ∙ f.gone p.0 k (g, l) p.1 (subst (λ (x : NumberedLock). IsKeyOf x.1.timeout_at k) (sym (p.2 (g, l))) key)

    pub kept_apart : InOrder (locks_at t.keyed n) → (k : Option ℕ) (g m : ℕ) → noted_node old k g ≡ Some m → (Under (parent_number t.keyed) top m → ⊥) → noted_node new k g ≡ Some m
    kept_apart sorted k g m h apart = f.kept k g m (w.kept k g m h apart) (λ i d lt number key.
        let found : find nat_cmp (get_or here i d).0 (locks_at t.keyed n) ≡ Some (get_or here i d).1 =
        ap (find nat_cmp (get_or here i d).0) (sym at) ∙ found_at_place here i d (subst InOrder (sym at) sorted) lt in
        let noted = a.noted k (get_or here i d).0 n (get_or here i d).1 found key in
        apart (subst (λ m. Under (parent_number t.keyed) top m) (same_some n m (sym noted ∙ ap (noted_node old k) number ∙ h)) w.walked.under))

    pub walks_on : InOrder (locks_at t.keyed n) → (m : ℕ) → WalkGoesOn t top n m → WalksForgetting t top old new m (turn + 1)
    walks_on sorted m g = record {
      walked = walk_on t shape top (Gone new) n turn (walk_weaker t shape top (Gone mid) (Gone new) still_gone n turn w.walked) gone_here m g;
      only = only_old;
      kept = kept_apart sorted;
    }

    pub walks_over : InOrder (locks_at t.keyed n) → IsWalkOver t top n → ForgetsEnds t.keyed old new (Under (parent_number t.keyed) top)
    walks_over sorted over = record {
      only = only_old;
      gone = λ k g q l under h key. walk_over t shape top (Gone new) n turn (walk_weaker t shape top (Gone mid) (Gone new) still_gone n turn w.walked) gone_here over q under k g l h key;
      kept = kept_apart sorted;
    }
