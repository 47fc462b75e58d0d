-- Folders and files are read as they were written, and restored.
use Rattle.std.proofs.Common.{◌≡◌, ℕ, false, ltb, List, [], ◌∷◌, ◌++◌, length, map, take, drop, Result, Ok, Err, refl, ap, ◌∙◌, append_assoc, arith}
use Rattle.std.specs.List.{AllByRecursion, flat_map}
use Rattle.std.proofs.lemmas.Bool.{le-ltb}
use Rattle.std.proofs.lemmas.List.{drop_at, length-append, take_at}
use Rattle.std.proofs.lemmas.List.Concat.{flat_map-cons}
use Rattle.dav_path_core.specs.declared.errors.FsError.{FsError}
use Rattle.dav_path_core.specs.Fronts.{Path}
use Rattle.dav_path_core.specs.PathText.{folder_bytes}
use Rattle.dav_path_core.specs.Segments.{segments}
use Rattle.dav_files_core.specs.declared.memfs.Kind.{Kind}
use Rattle.dav_files_core.specs.declared.memfs.Kind.TheVariants.{Folder, File}
use Rattle.dav_files_core.specs.Resources.{Resource, ResourceMap, is_folder}
use Rattle.dav_files_core.specs.Restoring.{restore, restore_all}
use Rattle.dav_locks_core.specs.Lock.{Lock}
use Rattle.dav_guarded_core.specs.Stores.{Stores}
use Rattle.dav_files_core.specs.Outcomes.{◌>>=◌}
use Rattle.dav_effects_core.specs.ByteForms.{each_text, flag_text, number_text}
use Rattle.dav_effects_core.specs.RecordReading.{property_at}
use Rattle.dav_effects_core.specs.RecordText.{path_text, stored_property_text}
use Rattle.dav_effects_core.specs.Records.{IsProperty}
use Rattle.dav_effects_core.proofs.Exact.{each_exact, flag_exact, number_exact}
use Rattle.dav_effects_core.proofs.ValueForms.{path_exact, property_exact}
use Rattle.dav_snapshots_core.specs.SnapshotReading.{stored_entry_at, entry_step, kind_if, repeat_at, standing}
use Rattle.dav_snapshots_core.specs.SnapshotText.{entries_text, entry_text}
use Rattle.dav_snapshots_core.specs.Snapshots.{SnapshotEntry, resource_from}
use Rattle.dav_snapshots_core.specs.WrittenSnapshots.{IsSnapshotEntry}

kind_back : (k : Kind) → kind_if (is_folder k) ≡ k
kind_back Folder = refl
kind_back File = refl

-- each segment of the path is one
abbrev pub HasPath : SnapshotEntry → Type 0
HasPath e = segments (folder_bytes e.path) ≡ e.path

entry_again : (before more : List ℕ) (e : SnapshotEntry) (rest : List ℕ) → IsSnapshotEntry e → HasPath e → stored_entry_at before (e.bytes ++ more) (entry_text before e ++ rest) ≡ Ok (e, rest)
unfolding stored_entry_at entry_text
entry_again before more e rest fits whole =
    let path = path_text before e.path in
    let number = number_text e.number in
    let flag = flag_text (is_folder e.kind) in
    let created = number_text e.created in
    let modified = number_text e.modified in
    let props = each_text stored_property_text e.props in
    let len = number_text (length e.bytes) in
    let regrouped : (path ++ (number ++ (flag ++ (created ++ (modified ++ (props ++ len)))))) ++ rest ≡ path ++ (number ++ (flag ++ (created ++ (modified ++ (props ++ (len ++ rest)))))) = simp append_assoc in
    let a = (path_exact before).again e.path (number ++ (flag ++ (created ++ (modified ++ (props ++ (len ++ rest)))))) (record { short = fits.path; whole = whole }) in
    let b = number_exact.again e.number (flag ++ (created ++ (modified ++ (props ++ (len ++ rest))))) fits.number in
    let c = flag_exact.again (is_folder e.kind) (created ++ (modified ++ (props ++ (len ++ rest)))) tt in
    let d = number_exact.again e.created (modified ++ (props ++ (len ++ rest))) fits.created in
    let f = number_exact.again e.modified (props ++ (len ++ rest)) fits.modified in
    let g = (each_exact stored_property_text IsProperty property_at property_exact).again e.props (len ++ rest) (fits.few, fits.props) in
    let h = number_exact.again (length e.bytes) rest fits.bytes in
    let left : ltb (length (e.bytes ++ more)) (length e.bytes) ≡ false = le-ltb (length (e.bytes ++ more)) (length e.bytes) (omega (arith, length-append e.bytes more)) in
    let body : take (length e.bytes) (e.bytes ++ more) ≡ e.bytes = take_at e.bytes more (length e.bytes) refl in
    ap (stored_entry_at before (e.bytes ++ more)) regrouped ∙ rw (a, b, c, d, f, g, h, left, body, kind_back e.kind) refl

-- ---- one after the other

-- the bytes of the last path
abbrev pub last_path : List ℕ → List SnapshotEntry → List ℕ
last_path before [] = before
last_path before (e ∷ es) = last_path (folder_bytes e.path) es

abbrev pub bodies_of : List SnapshotEntry → List ℕ
bodies_of es = flat_map (λ e. e.bytes) es

abbrev pub places_of : List SnapshotEntry → List (Path × Resource)
places_of es = map (λ e. (e.path, resource_from e)) es

abbrev Restored : Type 0
Restored = Result (Unit {0} × ResourceMap) FsError

-- the first of some that are restored is
first_restored : (r : Restored) (es : List (Path × Resource)) (n : ResourceMap) → (r >>= λ (x : Unit {0} × ResourceMap). restore_all x.1 es) ≡ Ok (tt, n)
    → (m : ResourceMap) × (r ≡ Ok (tt, m)) × (restore_all m es ≡ Ok (tt, n))
first_restored (Ok x) es n h = (x.1, refl, h)
first_restored (Err e) es n h = absurd cc

abbrev made : ResourceMap → Unit {0} × ResourceMap
made m = (tt, m)

abbrev restored : ResourceMap → Restored
restored m = Ok (made m)

same_map : (m n : ResourceMap) → restored m ≡ restored n → m ≡ n
same_map m n h = let e : made m ≡ made n = cc in ap (λ (x : Unit {0} × ResourceMap). x.1) e

abbrev pub stores_with : ResourceMap → List Lock → Stores
stores_with m locks = record { map = m; locks = locks }

step_again : (before more : List ℕ) (e : SnapshotEntry) (rest : List ℕ) (m n : ResourceMap) (locks : List Lock) → IsSnapshotEntry e → HasPath e → restore m e.path (resource_from e) ≡ Ok (tt, n)
    → entry_step (standing before (e.bytes ++ more) (stores_with m locks)) (entry_text before e ++ rest) ≡ Ok (standing (folder_bytes e.path) more (stores_with n locks), rest)
unfolding entry_step
step_again before more e rest m n locks fits whole h =
    let one = entry_again before more e rest fits whole in
    let left : drop (length e.bytes) (e.bytes ++ more) ≡ more = drop_at e.bytes more (length e.bytes) refl in
    rw (one, h, left) refl

pub entries_again : (es : List SnapshotEntry) (before more rest : List ℕ) (m n : ResourceMap) (locks : List Lock) → AllByRecursion IsSnapshotEntry es → AllByRecursion HasPath es → restore_all m (places_of es) ≡ Ok (tt, n)
    → repeat_at entry_step (length es) (standing before (bodies_of es ++ more) (stores_with m locks)) (entries_text before es ++ rest) ≡ Ok (standing (last_path before es) more (stores_with n locks), rest)
unfolding repeat_at entries_text
entries_again [] before more rest m n locks fits paths h =
    let same : m ≡ n = same_map m n h in
    ap (λ (x : ResourceMap). Ok (standing before more (stores_with x locks), rest)) same
entries_again (e ∷ es) before more rest m n locks fits paths h =
    let r = first_restored (restore m e.path (resource_from e)) (places_of es) n h in
    let behind = entries_text (folder_bytes e.path) es in
    let bodies : bodies_of (e ∷ es) ++ more ≡ e.bytes ++ (bodies_of es ++ more) = ap (λ (b : List ℕ). b ++ more) (flat_map-cons (λ (e : SnapshotEntry). e.bytes) e es) ∙ append_assoc e.bytes (bodies_of es) more in
    let one = step_again before (bodies_of es ++ more) e (behind ++ rest) m r.0 locks fits.0 paths.0 r.1 in
    let two = entries_again es (folder_bytes e.path) more rest r.0 n locks fits.1 paths.1 r.2 in
    ap (λ (b : List ℕ). repeat_at entry_step (length (e ∷ es)) (standing before b (stores_with m locks)) ((entry_text before e ++ behind) ++ rest)) bodies
    ∙ ap (repeat_at entry_step (length (e ∷ es)) (standing before (e.bytes ++ (bodies_of es ++ more)) (stores_with m locks))) (append_assoc (entry_text before e) behind rest)
    ∙ rw one two
