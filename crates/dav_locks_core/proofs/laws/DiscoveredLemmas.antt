-- What is discovered under an exclusive lock, and once expired locks are left out.
use Rattle.std.proofs.Common.{◌≡◌, inl, inr, ℕ, zero, suc, ◌+◌, Bool, true, false, ◌==◌, cond, not, List, [], ◌∷◌, ◌++◌, length, refl, sym, ap, ◌∙◌}
use Rattle.std.specs.Prelude.{filter, ◌&&◌}
use Rattle.std.specs.List.{AllByRecursion}
use Rattle.std.proofs.lemmas.Bool.{and_parts, false≢true, false_from_ne_true}
use Rattle.std.proofs.lemmas.List.Elements.{filter-append}
use Rattle.dav_path_core.specs.Fronts.{Path}
use Rattle.dav_path_core.proofs.lists.MemberLemmas.{In, all_in}
use Rattle.dav_path_core.proofs.lists.PlaceLemmas.{filter-filter}
use Rattle.dav_locks_core.specs.Lock.{Lock}
use Rattle.dav_locks_core.specs.Locks.{covers, height, covering_at, covering_from, discovered_locks}
use Rattle.dav_locks_core.specs.Exclusive.{Compat, Exclusive}
use Rattle.dav_locks_core.specs.Stale.{is_stale, without_stale}

-- the locks that cover a path
abbrev pub covering : List Lock → Path → List Lock
covering locks p = filter (λ l. covers l p) locks

-- none of those that may not share a path with one that covers it
none_covers : (l : Lock) (p : Path) → l.shared ≡ false → covers l p ≡ true → (locks : List Lock) → AllByRecursion (Compat l) locks → covering locks p ≡ []
none_covers l p own here [] h = refl
none_covers l p own here (k ∷ locks) h =
    let apart : covers k p ≡ false = false_from_ne_true (covers k p) (λ c. false≢true (sym own ∙ (and_parts l.shared k.shared (h.0 p here c)).0)) in
    ap (λ b. cond b (k ∷ covering locks p) (covering locks p)) apart ∙ none_covers l p own here locks h.1

-- an exclusive lock is the only one that covers its paths
pub covers_alone : (locks : List Lock) (l : Lock) (p : Path) → Exclusive locks → In l locks → l.shared ≡ false → covers l p ≡ true → covering locks p ≡ l ∷ []
covers_alone [] l p h i own here = absurd i
covers_alone (k ∷ locks) l p h (inl e) own here =
    let covered : covers k p ≡ true = ap (λ (l : Lock). covers l p) e ∙ here in
    ap (λ b. cond b (k ∷ covering locks p) (covering locks p)) covered
    ∙ ap (λ xs. k ∷ xs) (none_covers k p (ap (λ (l : Lock). l.shared) e ∙ own) covered locks h.0) ∙ ap (λ (k : Lock). k ∷ []) e
covers_alone (k ∷ locks) l p h (inr i) own here =
    let apart : covers k p ≡ false = false_from_ne_true (covers k p) (λ c. false≢true (sym own ∙ (and_parts k.shared l.shared (all_in (Compat k) locks l h.0 i p c here)).1)) in
    ap (λ b. cond b (k ∷ covering locks p) (covering locks p)) apart ∙ covers_alone locks l p h.1 i own here

-- what is discovered at a path is decided by the locks that cover it
at_height : (locks : List Lock) (p : Path) (n : ℕ) → covering_at locks p n ≡ filter (λ l. height l == n) (covering locks p)
at_height locks p n = sym (filter-filter (λ l. height l == n) (λ l. covers l p) locks)

pub same_discovered : (locks others : List Lock) (p : Path) → covering others p ≡ covering locks p → discovered_locks others p ≡ discovered_locks locks p
same_discovered locks others p same = from 0 (suc (length p))
  where
    from : (n more : ℕ) → covering_from others p n more ≡ covering_from locks p n more
    from n zero = refl
    from n (suc more) =
        ap (λ xs. xs ++ covering_from others p (n + 1) more) (at_height others p n ∙ ap (filter (λ l. height l == n)) same ∙ sym (at_height locks p n))
        ∙ ap (λ xs. covering_at locks p n ++ xs) (from (n + 1) more)

-- ---- without expired locks

and_swap : (a b : Bool) → (a && b) ≡ (b && a)
and_swap true true = refl
and_swap true false = refl
and_swap false true = refl
and_swap false false = refl

filter_swap : {X : Type 0} (p q : X → Bool) (xs : List X) → filter p (filter q xs) ≡ filter q (filter p xs)
filter_swap p q xs = filter-filter p q xs ∙ (λ i. filter (λ x. and_swap (q x) (p x) i) xs) ∙ sym (filter-filter q p xs)

-- it is one whether they are left out of the list, or of what is discovered
pub discovered_live : (now : ℕ) (locks : List Lock) (p : Path) → without_stale now (discovered_locks locks p) ≡ discovered_locks (without_stale now locks) p
discovered_live now locks p = from 0 (suc (length p))
  where
    from : (n more : ℕ) → without_stale now (covering_from locks p n more) ≡ covering_from (without_stale now locks) p n more
    from n zero = refl
    from n (suc more) =
        filter-append (λ l. not (is_stale now l)) (covering_at locks p n) (covering_from locks p (n + 1) more)
        ∙ ap (λ xs. xs ++ without_stale now (covering_from locks p (n + 1) more)) (filter_swap (λ l. not (is_stale now l)) (λ l. covers l p && (height l == n)) locks)
        ∙ ap (λ xs. covering_at (without_stale now locks) p n ++ xs) (from (n + 1) more)
