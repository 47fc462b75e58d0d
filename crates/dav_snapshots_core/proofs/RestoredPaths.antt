-- Each path of what a snapshot gives is made of segments.
use Rattle.std.proofs.Common.{◌≡◌, ℕ, zero, suc, ◌-◌, Bool, List, [], ◌∷◌, ◌++◌, length, drop, Result, Ok, Err, cond, refl, ap, subst}
use Rattle.std.specs.Prelude.{◌==◌, if◌then◌else◌}
use Rattle.dav_path_core.specs.declared.errors.FsError.{FsError}
use Rattle.dav_path_core.specs.Fronts.{Path}
use Rattle.dav_path_core.specs.PathText.{folder_bytes}
use Rattle.dav_path_core.specs.Segments.{segments}
use Rattle.dav_path_core.proofs.paths.ParentLemmas.{all_segments}
use Rattle.dav_files_core.specs.Outcomes.{start}
use Rattle.dav_files_core.specs.Resources.{Property, ResourceMap}
use Rattle.dav_files_core.specs.Restoring.{restore}
use Rattle.dav_locks_core.specs.Lock.{Lock}
use Rattle.dav_locks_core.specs.Locks.{lock_conflicts, lock_path}
use Rattle.dav_guarded_core.specs.Stores.{Stores, start_stores}
use Rattle.dav_effects_core.specs.ByteForms.{Reading, ◌>>=◌, counted_at, each_at, eight_bytes_at, flag_at, following_at, only_at, pair_at}
use Rattle.dav_effects_core.specs.RecordReading.{body_is_left, is_folder_text, path_at, property_at, whole_of_head, whole_of_parts}
use Rattle.dav_effects_core.proofs.Exact.{bind_ok, guard_true, ok_is}
use Rattle.dav_snapshots_core.specs.SnapshotReading.{EntryFields, Standing, entry_from, entry_step, lock_step, numbered_from, repeat_at, snapshot_at, snapshot_head_at, standing, steps_at, stored_entry_at, stored_lock_at, with_restored_lock, with_restored_map}
use Rattle.dav_snapshots_core.specs.Snapshots.{SnapshotEntry, resource_from}
use Rattle.dav_snapshots_core.specs.WrittenSnapshots.{HasPaths}
use Rattle.dav_snapshots_core.proofs.NamedPaths.{IsNamed, Named, new_paths, of_paths, restored_named, to_paths}

-- ---- steps that keep what they are given

module _ {A : Type 0} (P : A → Type 0) (step : A → Reading A) (keeps : (a b : A) (bytes rest : List ℕ) → P a → step a bytes ≡ Ok (b, rest) → P b) where
  repeated : (n : ℕ) (a b : A) (bytes rest : List ℕ) → P a → repeat_at step n a bytes ≡ Ok (b, rest) → P b
  unfolding repeat_at
  repeated zero a b bytes rest p h = subst P (ap (λ (x : A × List ℕ). x.0) (ok_is (a, bytes) (b, rest) h)) p
  repeated (suc n) a b bytes rest p h =
      let one = bind_ok (step a bytes) (λ x. repeat_at step n x.0 x.1) (b, rest) h in
      repeated n one.0.0 b one.0.1 rest (keeps a one.0.0 bytes one.0.1 p one.1) one.2

  stepped : (a b : A) (bytes rest : List ℕ) → P a → steps_at step a bytes ≡ Ok (b, rest) → P b
  unfolding steps_at
  stepped a b bytes rest p h =
      let count = bind_ok (eight_bytes_at bytes) (λ n. repeat_at step n.0 a n.1) (b, rest) h in
      repeated count.0.0 a b count.0.1 rest p count.2

abbrev HasNamed : Standing → Type 0
HasNamed s = Named s.stores.map

-- ---- folders and files

path_named : (before : List ℕ) (p : Path) (bytes rest : List ℕ) → path_at before bytes ≡ Ok (p, rest) → IsNamed p
unfolding path_at
path_named before p bytes rest h =
    let text = bind_ok (only_at is_folder_text (following_at before) bytes) (λ a. Ok (segments a.0, a.1)) (p, rest) h in
    subst IsNamed (ap (λ (x : Path × List ℕ). x.0) (ok_is (segments text.0.0, text.0.1) (p, rest) text.2)) (all_segments text.0.0)

abbrev BehindPath : Type 0
BehindPath = ℕ × (Bool × (ℕ × (ℕ × (List Property × ℕ))))

behind_path : Reading BehindPath
behind_path = pair_at eight_bytes_at (λ _. pair_at flag_at (λ _. pair_at eight_bytes_at (λ _. pair_at eight_bytes_at (λ _. pair_at (each_at property_at) (λ _. eight_bytes_at)))))

-- the first of a pair
first_named : (before : List ℕ) (q : Reading BehindPath) (x : EntryFields) (bytes rest : List ℕ) → pair_at (path_at before) (λ _. q) bytes ≡ Ok (x, rest) → IsNamed x.0
first_named before q x bytes rest h =
    let path = bind_ok (path_at before bytes) (λ a. q a.1 >>= λ b. Ok ((a.0, b.0), b.1)) (x, rest) h in
    let behind = bind_ok (q path.0.1) (λ b. Ok ((path.0.0, b.0), b.1)) (x, rest) path.2 in
    let same = ok_is ((path.0.0, behind.0.0), behind.0.1) (x, rest) behind.2 in
    subst IsNamed (ap (λ (y : EntryFields × List ℕ). y.0.0) same) (path_named before path.0.0 bytes path.0.1 path.1)

entry_named : (before bodies : List ℕ) (e : SnapshotEntry) (bytes rest : List ℕ) → stored_entry_at before bodies bytes ≡ Ok (e, rest) → IsNamed e.path
unfolding stored_entry_at behind_path
entry_named before bodies e bytes rest h =
    let test : EntryFields → Bool = λ x. body_is_left bodies x.1.1.1.1.1.1 in
    let fields : Reading EntryFields = pair_at (path_at before) (λ _. behind_path) in
    let one = bind_ok (only_at test fields bytes) (λ a. Ok (entry_from bodies a.0, a.1)) (e, rest) h in
    let two = bind_ok (fields bytes) (λ a. cond (test a.0) (Ok a) (Err (length bytes))) one.0 one.1 in
    let same = ok_is two.0 one.0 (guard_true (test two.0.0) (length bytes) (Ok two.0) one.0 two.2).1 in
    let named = subst (λ (y : EntryFields × List ℕ). IsNamed y.0.0) same (first_named before behind_path two.0.0 bytes two.0.1 two.1) in
    subst (λ (y : SnapshotEntry × List ℕ). IsNamed y.0.path) (ok_is (entry_from bodies one.0.0, one.0.1) (e, rest) one.2) named

abbrev stores_of : ResourceMap → List Lock → Stores
stores_of m locks = record { map = m; locks = locks }

map_named : (left : ℕ) (s t : Stores) (o : Result (Unit {0} × ResourceMap) FsError) → ((x : Unit {0} × ResourceMap) → o ≡ Ok x → Named x.1) → with_restored_map left s o ≡ Ok t → Named t.map
map_named left s t (Ok x) named h = subst (λ (u : Stores). Named u.map) (ok_is (stores_of x.1 s.locks) t h) (named x refl)
map_named left s t (Err e) named h = absurd cc

entries_named : (s t : Standing) (bytes rest : List ℕ) → HasNamed s → entry_step s bytes ≡ Ok (t, rest) → HasNamed t
unfolding entry_step
entries_named s t bytes rest named h =
    let e = bind_ok (stored_entry_at s.path s.bodies bytes) (λ e. with_restored_map (length bytes) s.stores (restore s.stores.map e.0.path (resource_from e.0)) >>= λ stores.
    Ok (standing (folder_bytes e.0.path) (drop (length e.0.bytes) s.bodies) stores, e.1)) (t, rest) h in
    let put = restore s.stores.map e.0.0.path (resource_from e.0.0) in
    let behind : Stores → Standing = λ stores. standing (folder_bytes e.0.0.path) (drop (length e.0.0.bytes) s.bodies) stores in
    let stores = bind_ok (with_restored_map (length bytes) s.stores put) (λ stores. Ok (behind stores, e.0.1)) (t, rest) e.2 in
    let path = entry_named s.path s.bodies e.0.0 bytes e.0.1 e.1 in
    let now = map_named (length bytes) s.stores stores.0 put (restored_named s.stores.map named e.0.0.path (resource_from e.0.0) path) stores.1 in
    subst (λ (y : Standing × List ℕ). HasNamed y.0) (ok_is (behind stores.0, e.0.1) (t, rest) stores.2) now

-- ---- locks

locks_named : (s t : Standing) (bytes rest : List ℕ) → HasNamed s → lock_step s bytes ≡ Ok (t, rest) → HasNamed t
unfolding lock_step
locks_named s t bytes rest named h =
    let l = bind_ok (stored_lock_at s.path bytes) (λ l. with_restored_lock (length bytes) s.stores l.0 >>= λ stores. Ok (standing l.0.path.bytes s.bodies stores, l.1)) (t, rest) h in
    let behind : Stores → Standing = λ stores. standing l.0.0.path.bytes s.bodies stores in
    let stores = bind_ok (with_restored_lock (length bytes) s.stores l.0.0) (λ stores. Ok (behind stores, l.0.1)) (t, rest) l.2 in
    let free = length (lock_conflicts s.stores.locks (lock_path l.0.0) l.0.0.shared l.0.0.deep) == 0 in
    let with_lock = stores_of s.stores.map (s.stores.locks ++ l.0.0 ∷ []) in
    let same = ok_is with_lock stores.0 (guard_true free (length bytes) (Ok with_lock) stores.0 stores.1).1 in
    let now = subst (λ (u : Stores). Named u.map) same named in
    subst (λ (y : Standing × List ℕ). HasNamed y.0) (ok_is (behind stores.0, l.0.1) (t, rest) stores.2) now

-- ---- a snapshot

head_named : (bodies head left : List ℕ) (s : Stores) (now : ℕ) → snapshot_head_at bodies head ≡ Ok ((s, now), left) → Named s.map
unfolding snapshot_head_at
head_named bodies head left s now h =
    let end : ℕ → Standing × List ℕ → Result ((Stores × ℕ) × List ℕ) ℕ = λ now t. if length t.1 == 0 then Ok ((t.0.stores, now), t.0.bodies) else Err (length t.1) in
    let behind : ℕ → ℕ → Standing × List ℕ → Result ((Stores × ℕ) × List ℕ) ℕ = λ now next s. steps_at lock_step (standing [] s.0.bodies (numbered_from next s.0.stores)) s.1 >>= end now in
    let from : ℕ → ℕ × List ℕ → Result ((Stores × ℕ) × List ℕ) ℕ = λ now next. steps_at entry_step (standing [] bodies (start_stores now)) next.1 >>= behind now next.0 in
    let moment = bind_ok (eight_bytes_at head) (λ now. eight_bytes_at now.1 >>= from now.0) ((s, now), left) h in
    let next = bind_ok (eight_bytes_at moment.0.1) (from moment.0.0) ((s, now), left) moment.2 in
    let begun = standing [] bodies (start_stores moment.0.0) in
    let entries = bind_ok (steps_at entry_step begun next.0.1) (behind moment.0.0 next.0.0) ((s, now), left) next.2 in
    let numbered = standing [] entries.0.0.bodies (numbered_from next.0.0 entries.0.0.stores) in
    let locks = bind_ok (steps_at lock_step numbered entries.0.1) (end moment.0.0) ((s, now), left) entries.2 in
    let one = stepped HasNamed entry_step entries_named begun entries.0.0 next.0.1 entries.0.1 (of_paths (start moment.0.0) (new_paths moment.0.0)) entries.1 in
    let two = stepped HasNamed lock_step locks_named numbered locks.0.0 entries.0.1 locks.0.1 one locks.1 in
    let found : (Stores × ℕ) × List ℕ = ((locks.0.0.stores, moment.0.0), locks.0.0.bodies) in
    let whole = guard_true (length locks.0.1 == 0) (length locks.0.1) (Ok found) ((s, now), left) locks.2 in
    subst (λ (y : (Stores × ℕ) × List ℕ). Named y.0.0.map) (ok_is found ((s, now), left) whole.1) two

whole_named : (len end : ℕ) (o : Result ((Stores × ℕ) × List ℕ) ℕ) (s : Stores) (now : ℕ) → ((t : Stores) (m : ℕ) (left : List ℕ) → o ≡ Ok ((t, m), left) → Named t.map)
    → whole_of_head len end o ≡ Ok (s, now) → Named s.map
whole_named len end (Ok x) s now named h =
    let whole = guard_true (length x.1 == 0) (len - length x.1) (Ok x.0) (s, now) h in
    subst (λ (y : Stores × ℕ). Named y.0.map) (ok_is x.0 (s, now) whole.1) (named x.0.0 x.0.1 x.1 refl)
whole_named len end (Err left) s now named h = absurd cc

parts_named : (len : ℕ) (o : Result (List ℕ × List ℕ) ℕ) (s : Stores) (now : ℕ) → whole_of_parts snapshot_head_at len o ≡ Ok (s, now) → Named s.map
parts_named len (Ok parts) s now h = whole_named len (len - length parts.1) (snapshot_head_at parts.1 parts.0) s now (λ t m left. head_named parts.1 parts.0 left t m) h
parts_named len (Err left) s now h = absurd cc

pub snapshot_paths : (bytes : List ℕ) (s : Stores) (now : ℕ) → snapshot_at bytes ≡ Ok (s, now) → HasPaths s.map
unfolding snapshot_at
snapshot_paths bytes s now h = to_paths s.map (parts_named (length bytes) (counted_at bytes) s now h)
