-- Folders, files and locks that are put one after the other.
use Rattle.std.proofs.Common.{◌≡◌, ℕ, suc, ◌+◌, ◌<◌, ◌≤◌, List, [], ◌∷◌, ◌++◌, length, map, get_or, take, drop, refl, sym, ap, ◌∙◌, append_assoc, arith, add-one, drop-cons}
use Rattle.std.proofs.lemmas.List.{append-nil, nil_from_length, length-drop, take-append-drop, take_more}
use Rattle.std.specs.Borrow.{Bor}
use Rattle.dav_path_core.specs.PathText.{folder_bytes}
use Rattle.dav_files_core.specs.Walks.{Stored}
use Rattle.dav_locks_core.specs.Lock.{Lock}
use Rattle.dav_snapshots_core.specs.SnapshotText.{entries_text, entry_text, lock_text, locks_text}
use Rattle.dav_snapshots_core.specs.Snapshots.{SnapshotEntry, snapshot_entry}

-- what is left of a list at the place of one of its members
pub drop_next : {A : Type 0} (xs : List A) (i : ℕ) (x : A) → i < length xs → x ≡ get_or xs i x → drop i xs ≡ x ∷ drop (i + 1) xs
drop_next xs i x lt at = drop-cons xs i x lt ∙ ap (λ y. y ∷ drop (suc i) xs) (sym at) ∙ ap (λ k. x ∷ drop k xs) (sym (add-one i))

-- a list at the place of one of its members
pub split_at : {A : Type 0} (xs : List A) (i : ℕ) (x : A) → i < length xs → x ≡ get_or xs i x → xs ≡ take i xs ++ x ∷ drop (i + 1) xs
split_at xs i x lt at =
    sym (take-append-drop i xs) ∙ ap (λ (l : List _). take i xs ++ l) (drop_next xs i x lt at)

pub take_next : {A : Type 0} (xs : List A) (i : ℕ) (x : A) → i < length xs → x ≡ get_or xs i x → take (i + 1) xs ≡ take i xs ++ x ∷ []
take_next xs i x lt at = take_more xs i x lt ∙ ap (λ y. take i xs ++ y ∷ []) (sym at)

-- texts of values, each behind the one before
module _ {A B : Type 0} (view : A → B) (one : List ℕ → B → List ℕ) (behind : B → List ℕ) (all : List ℕ → List B → List ℕ)
    (nil : (before : List ℕ) → all before [] ≡ []) (cons : (before : List ℕ) (x : B) (xs : List B) → all before (x ∷ xs) ≡ one before x ++ all (behind x) xs) where
  pub put_more : (out out' before before' whole : List ℕ) (xs : List A) (i : ℕ) (x : A) → i < length xs → x ≡ get_or xs i x
      → out' ≡ out ++ one before (view x) → before' ≡ behind (view x)
      → out ++ all before (map view (drop i xs)) ≡ whole → out' ++ all before' (map view (drop (i + 1) xs)) ≡ whole
  put_more out out' before before' whole xs i x lt at o b so_far =
      let more = all (behind (view x)) (map view (drop (i + 1) xs)) in
      let left = drop_next xs i x lt at in
      let next : all before (map view (drop i xs)) ≡ one before (view x) ++ more = ap (λ l. all before (map view l)) left ∙ cons before (view x) (map view (drop (i + 1) xs)) in
      rw (o, b) (append_assoc out (one before (view x)) more ∙ ap (λ (r : List ℕ). out ++ r) (sym next) ∙ so_far)

  pub put_done : (out before whole : List ℕ) (xs : List A) (i : ℕ) → length xs ≤ i → out ++ all before (map view (drop i xs)) ≡ whole → out ≡ whole
  put_done out before whole xs i le so_far =
      let none : drop i xs ≡ [] = nil_from_length (drop i xs) (omega (arith, length-drop i xs)) in
      sym (append-nil out) ∙ ap (λ (l : List ℕ). out ++ l) (sym (ap (λ l. all before (map view l)) none ∙ nil before)) ∙ so_far

entries_none : (before : List ℕ) → entries_text before [] ≡ []
unfolding entries_text
entries_none before = refl

entries_one : (before : List ℕ) (e : SnapshotEntry) (es : List SnapshotEntry) → entries_text before (e ∷ es) ≡ entry_text before e ++ entries_text (folder_bytes e.path) es
unfolding entries_text
entries_one before e es = refl

pub entries_more : (out out' before before' whole : List ℕ) (xs : List Stored) (i : ℕ) (x : Stored) → i < length xs → x ≡ get_or xs i x
    → out' ≡ out ++ entry_text before (snapshot_entry x) → before' ≡ folder_bytes x.path
    → out ++ entries_text before (map snapshot_entry (drop i xs)) ≡ whole → out' ++ entries_text before' (map snapshot_entry (drop (i + 1) xs)) ≡ whole
entries_more = put_more snapshot_entry entry_text (λ e. folder_bytes e.path) entries_text entries_none entries_one

pub entries_done : (out before whole : List ℕ) (xs : List Stored) (i : ℕ) → length xs ≤ i → out ++ entries_text before (map snapshot_entry (drop i xs)) ≡ whole → out ≡ whole
entries_done = put_done snapshot_entry entry_text (λ e. folder_bytes e.path) entries_text entries_none entries_one

locks_none : (before : List ℕ) → locks_text before [] ≡ []
unfolding locks_text
locks_none before = refl

locks_one : (before : List ℕ) (l : Lock) (ls : List Lock) → locks_text before (l ∷ ls) ≡ lock_text before l ++ locks_text l.path.bytes ls
unfolding locks_text
locks_one before l ls = refl

pub locks_more : (out out' before before' whole : List ℕ) (xs : List (Bor Lock)) (i : ℕ) (x : Bor Lock) → i < length xs → x ≡ get_or xs i x
    → out' ≡ out ++ lock_text before x.now → before' ≡ x.now.path.bytes
    → out ++ locks_text before (map (λ l. l.now) (drop i xs)) ≡ whole → out' ++ locks_text before' (map (λ l. l.now) (drop (i + 1) xs)) ≡ whole
locks_more = put_more (λ (l : Bor Lock). l.now) lock_text (λ l. l.path.bytes) locks_text locks_none locks_one

pub locks_done : (out before whole : List ℕ) (xs : List (Bor Lock)) (i : ℕ) → length xs ≤ i → out ++ locks_text before (map (λ l. l.now) (drop i xs)) ≡ whole → out ≡ whole
locks_done = put_done (λ (l : Bor Lock). l.now) lock_text (λ l. l.path.bytes) locks_text locks_none locks_one
