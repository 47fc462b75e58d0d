-- A snapshot is read as the stores that it is of.
use Rattle.std.proofs.Common.{◌≡◌, inl, inr, ℕ, ◌≤◌, List, [], ◌∷◌, ◌++◌, length, map, Some, Ok, refl, sym, ap, subst, ◌∙◌, arith}
use Rattle.std.specs.List.{AllByRecursion}
use Rattle.std.proofs.lemmas.List.{append-nil}
use Rattle.dav_path_core.specs.Fronts.{Path}
use Rattle.dav_path_core.proofs.lists.MemberLemmas.{In}
use Rattle.dav_files_core.specs.Outcomes.{start}
use Rattle.dav_files_core.specs.Resources.{Properties, Resource, ResourceMap, at_path}
use Rattle.dav_files_core.specs.Restoring.{restore_all, with_later_next}
use Rattle.dav_files_core.specs.Walks.{Stored, stored_entry}
use Rattle.dav_files_core.proofs.laws.RestoredLaws.{restored_from_walk}
use Rattle.dav_locks_core.specs.Exclusive.{Exclusive}
use Rattle.dav_locks_core.specs.Lock.{Lock}
use Rattle.dav_guarded_core.specs.Stores.{Stores, start_stores}
use Rattle.dav_effects_core.specs.ByteForms.{number_text}
use Rattle.dav_effects_core.proofs.Exact.{counted_exact, number_exact}
use Rattle.dav_snapshots_core.specs.SnapshotReading.{entry_step, lock_step, numbered_from, repeat_at, snapshot_at, snapshot_head_at, standing, steps_at}
use Rattle.dav_snapshots_core.specs.SnapshotText.{entries_text, locks_text, snapshot_bodies, snapshot_head}
use Rattle.dav_snapshots_core.specs.Snapshots.{HasWholeProps, Snapshot, snapshot_entry}
use Rattle.dav_snapshots_core.specs.WrittenSnapshots.{CanBeWritten, HasPaths, IsSnapshot}
use Rattle.dav_snapshots_core.proofs.EntryForms.{HasPath, entries_again, last_path, places_of, stores_with}
use Rattle.dav_snapshots_core.proofs.LockForms.{last_lock_path, locks_again}
use Rattle.dav_snapshots_core.proofs.MetLemmas.{in_map}

-- ---- what a walk gives is what is restored

places_same : (walk : List Stored) → AllByRecursion HasWholeProps walk → places_of (map snapshot_entry walk) ≡ map stored_entry walk
places_same [] h = refl
places_same (w ∷ walk) h =
    let node = w.resource.node in
    ap (λ (props : Properties). (w.path, record { number = w.resource.number; node = record { kind = node.kind; bytes = node.bytes; props = props; created = node.created; modified = node.modified } }) ∷ places_of (map snapshot_entry walk)) h.0
    ∙ ap (λ (es : List (Path × Resource)). stored_entry w ∷ es) (places_same walk h.1)

have_paths : (m : ResourceMap) (walk : List Stored) → HasPaths m → ((w : Stored) → In w walk → at_path m w.path ≡ Some w.resource) → AllByRecursion HasPath (map snapshot_entry walk)
have_paths m [] paths stand = tt
have_paths m (w ∷ walk) paths stand = (paths w.path w.resource (stand w (inl refl)), have_paths m walk paths (λ v i. stand v (inr i)))

-- ---- the head

head_again : (x : Snapshot) (n : ResourceMap) → CanBeWritten x → AllByRecursion HasPath x.entries → restore_all (start x.now) (places_of x.entries) ≡ Ok (tt, n) → Exclusive x.locks
    → snapshot_head_at (snapshot_bodies x) (snapshot_head x) ≡ Ok ((stores_with (with_later_next n x.next) x.locks, x.now), [])
unfolding snapshot_head_at steps_at
head_again x n fits paths restored apart =
    let locks = locks_text [] x.locks in
    let tail = number_text (length x.locks) ++ locks in
    let entries = entries_text [] x.entries in
    let a = number_exact.again x.now (number_text x.next ++ (number_text (length x.entries) ++ (entries ++ tail))) fits.now in
    let b = number_exact.again x.next (number_text (length x.entries) ++ (entries ++ tail)) fits.next in
    let c = number_exact.again (length x.entries) (entries ++ tail) fits.few in
    let d : repeat_at entry_step (length x.entries) (standing [] (snapshot_bodies x) (start_stores x.now)) (entries ++ tail) ≡ Ok (standing (last_path [] x.entries) [] (stores_with n []), tail) =
    ap (λ (bodies : List ℕ). repeat_at entry_step (length x.entries) (standing [] bodies (start_stores x.now)) (entries ++ tail)) (sym (append-nil (snapshot_bodies x)))
    ∙ entries_again x.entries [] [] tail (start x.now) n [] fits.entries paths restored in
    let e = number_exact.again (length x.locks) locks fits.few_locks in
    let f : repeat_at lock_step (length x.locks) (standing [] [] (numbered_from x.next (stores_with n []))) locks ≡ Ok (standing (last_lock_path [] x.locks) [] (stores_with (with_later_next n x.next) x.locks), []) =
    ap (repeat_at lock_step (length x.locks) (standing [] [] (numbered_from x.next (stores_with n [])))) (sym (append-nil locks))
    ∙ locks_again x.locks [] [] [] (with_later_next n x.next) [] fits.locks apart in
    rw (a, b, c, d, e, f) refl

-- ---- the whole

pub snapshot_again : (s : Stores) (now : ℕ) (bytes : List ℕ) → IsSnapshot s now bytes → HasPaths s.map → snapshot_at bytes ≡ Ok (s, now)
unfolding snapshot_at
snapshot_again s now bytes is paths =
    let x = is.what in
    let of = is.stands in
    let small : s.map.next ≤ 18446744073709551615 = omega (arith, is.fits.next, of.next) in
    let r = restored_from_walk s.map of.shape small of.walk of.walked x.now in
    let restored : restore_all (start x.now) (places_of x.entries) ≡ Ok (tt, r.0) =
    ap (λ es. restore_all (start x.now) (places_of es)) of.entries ∙ ap (restore_all (start x.now)) (places_same of.walk of.whole) ∙ r.1 in
    let whole : AllByRecursion HasPath x.entries = subst (AllByRecursion HasPath) (sym of.entries) (have_paths s.map of.walk paths (λ w i. in_map s.map of.walk w of.walked i)) in
    let one = counted_exact.again (snapshot_head x) (snapshot_bodies x) is.fits.short in
    let two = head_again x r.0 is.fits whole restored (subst Exclusive (sym of.locks) of.exclusive) in
    let map : with_later_next r.0 x.next ≡ s.map = ap (with_later_next r.0) of.next ∙ r.2 in
    ap snapshot_at is.written ∙ rw (one, two) (ap (λ (m : ResourceMap). Ok (stores_with m x.locks, x.now)) map ∙ ap (λ (locks : List Lock). Ok (stores_with s.map locks, x.now)) of.locks ∙ ap (λ (n : ℕ). Ok (s, n)) of.now)
