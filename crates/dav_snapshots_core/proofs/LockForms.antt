-- Locks are read as they were written, and restored.
use Rattle.std.proofs.Common.{◌≡◌, ℕ, List, [], ◌∷◌, ◌++◌, length, Ok, refl, sym, ap, subst, ◌∙◌, append_assoc}
use Rattle.std.specs.List.{AllByRecursion}
use Rattle.std.proofs.lemmas.List.{append-nil}
use Rattle.dav_files_core.specs.Resources.{ResourceMap}
use Rattle.dav_locks_core.specs.Exclusive.{Exclusive}
use Rattle.dav_locks_core.specs.Lock.{Lock}
use Rattle.dav_locks_core.specs.Locks.{lock_conflicts, lock_path}
use Rattle.dav_locks_core.proofs.laws.RestoredLaws.{free_behind}
use Rattle.dav_effects_core.specs.ByteForms.{FitsInEight, IsUtf8Text, counted_text, eight_bytes_at, flag_text, following_text, number_text, optional_text, utf8_at}
use Rattle.dav_effects_core.proofs.Exact.{flag_exact, number_exact, optional_exact, text_exact}
use Rattle.dav_effects_core.proofs.Following.{following_exact}
use Rattle.dav_snapshots_core.specs.SnapshotReading.{stored_lock_at, lock_step, repeat_at, standing}
use Rattle.dav_snapshots_core.specs.SnapshotText.{lock_text, locks_text}
use Rattle.dav_snapshots_core.specs.WrittenSnapshots.{IsSnapshotLock}
use Rattle.dav_snapshots_core.proofs.EntryForms.{stores_with}

lock_again : (before : List ℕ) (l : Lock) (rest : List ℕ) → IsSnapshotLock l → stored_lock_at before (lock_text before l ++ rest) ≡ Ok (l, rest)
unfolding stored_lock_at lock_text
lock_again before l rest fits =
    let token = counted_text l.token in
    let prefix = counted_text l.path.prefix in
    let path = following_text before l.path.bytes in
    let principal = optional_text counted_text l.principal in
    let owner = optional_text counted_text l.owner in
    let timeout_at = optional_text number_text l.timeout_at in
    let timeout = optional_text number_text l.timeout in
    let shared = flag_text l.shared in
    let deep = flag_text l.deep in
    let text = optional_exact counted_text IsUtf8Text utf8_at text_exact in
    let number = optional_exact number_text FitsInEight eight_bytes_at number_exact in
    let regrouped : (token ++ (prefix ++ (path ++ (principal ++ (owner ++ (timeout_at ++ (timeout ++ (shared ++ deep)))))))) ++ rest
    ≡ token ++ (prefix ++ (path ++ (principal ++ (owner ++ (timeout_at ++ (timeout ++ (shared ++ (deep ++ rest)))))))) = simp append_assoc in
    let a = text_exact.again l.token (prefix ++ (path ++ (principal ++ (owner ++ (timeout_at ++ (timeout ++ (shared ++ (deep ++ rest)))))))) fits.token in
    let b = text_exact.again l.path.prefix (path ++ (principal ++ (owner ++ (timeout_at ++ (timeout ++ (shared ++ (deep ++ rest))))))) fits.path.prefix in
    let c = (following_exact before).again l.path.bytes (principal ++ (owner ++ (timeout_at ++ (timeout ++ (shared ++ (deep ++ rest)))))) fits.path.bytes in
    let d = text.again l.principal (owner ++ (timeout_at ++ (timeout ++ (shared ++ (deep ++ rest))))) fits.principal in
    let e = text.again l.owner (timeout_at ++ (timeout ++ (shared ++ (deep ++ rest)))) fits.owner in
    let f = number.again l.timeout_at (timeout ++ (shared ++ (deep ++ rest))) fits.timeout_at in
    let g = number.again l.timeout (shared ++ (deep ++ rest)) fits.timeout in
    let h = flag_exact.again l.shared (deep ++ rest) tt in
    let i = flag_exact.again l.deep rest tt in
    ap (stored_lock_at before) regrouped ∙ rw (a, b, c, d, e, f, g, h, i) refl

-- ---- one after the other

-- the bytes of the last path
abbrev pub last_lock_path : List ℕ → List Lock → List ℕ
last_lock_path before [] = before
last_lock_path before (l ∷ ls) = last_lock_path l.path.bytes ls

step_again : (before bodies : List ℕ) (l : Lock) (rest : List ℕ) (m : ResourceMap) (front : List Lock) → IsSnapshotLock l → lock_conflicts front (lock_path l) l.shared l.deep ≡ []
    → lock_step (standing before bodies (stores_with m front)) (lock_text before l ++ rest) ≡ Ok (standing l.path.bytes bodies (stores_with m (front ++ l ∷ [])), rest)
unfolding lock_step
step_again before bodies l rest m front fits free =
    let one = lock_again before l rest fits in
    rw (one, free) refl

pub locks_again : (ls : List Lock) (before bodies rest : List ℕ) (m : ResourceMap) (front : List Lock) → AllByRecursion IsSnapshotLock ls → Exclusive (front ++ ls)
    → repeat_at lock_step (length ls) (standing before bodies (stores_with m front)) (locks_text before ls ++ rest) ≡ Ok (standing (last_lock_path before ls) bodies (stores_with m (front ++ ls)), rest)
unfolding repeat_at locks_text
locks_again [] before bodies rest m front fits apart = ap (λ (ls : List Lock). Ok (standing before bodies (stores_with m ls), rest)) (sym (append-nil front))
locks_again (l ∷ ls) before bodies rest m front fits apart =
    let behind = locks_text l.path.bytes ls in
    let one = step_again before bodies l (behind ++ rest) m front fits.0 (free_behind front l ls apart) in
    let joined : (front ++ l ∷ []) ++ ls ≡ front ++ l ∷ ls = append_assoc front (l ∷ []) ls in
    let two = locks_again ls l.path.bytes bodies rest m (front ++ l ∷ []) fits.1 (subst Exclusive (sym joined) apart) in
    ap (repeat_at lock_step (length (l ∷ ls)) (standing before bodies (stores_with m front))) (append_assoc (lock_text before l) behind rest)
    ∙ rw one two ∙ ap (λ (ks : List Lock). Ok (standing (last_lock_path l.path.bytes ls) bodies (stores_with m ks), rest)) joined
