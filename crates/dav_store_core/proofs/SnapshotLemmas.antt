-- The snapshot that a compacted store has in front.
use Rattle.std.proofs.Common.{◌≡◌, ◌≢◌, ◌<◌, inl, inr, ℕ, zero, suc, List, [], ◌∷◌, Ok, refl, sym, subst, arith}
use Rattle.journal_core.specs.declared.header.Header.{Header}
use Rattle.journal_core.specs.declared.reader.Reader.{Reader}
use Rattle.journal_core.specs.JournalReading.{HasEnded, HasRead}
use Rattle.journal_core.proofs.Opening.{read_first}
use Rattle.journal_core.proofs.Rounds.{stands_for_one}
use Rattle.dav_guarded_core.specs.Stores.{Stores, start_stores}
use Rattle.dav_snapshots_core.specs.SnapshotReading.{snapshot_at}
use Rattle.dav_snapshots_core.specs.WrittenSnapshots.{HasPaths, IsSnapshot}
use Rattle.dav_snapshots_core.proofs.NamedPaths.{new_paths, notes_keep_paths}
use Rattle.dav_snapshots_core.proofs.RestoredPaths.{snapshot_paths}
use Rattle.dav_snapshots_core.proofs.SnapshotForms.{snapshot_again}
use Rattle.dav_store_core.specs.Loading.{IsPlayed, LacksSnapshot, StandsForNone}
use Rattle.dav_store_core.specs.StandingFor.{HaveRecords, KeepsAll, StandFor, StandByGeneration}
use Rattle.dav_store_core.proofs.KeepLemmas.{stand_begins}

-- ---- in front

-- a snapshot alone stands for what it is read as
pub stand_snapshot : (g began : ℕ) (s : Stores) (last : ℕ) (bytes : List ℕ) → 0 < g → snapshot_at bytes ≡ Ok (s, last) → StandByGeneration g began (bytes ∷ []) s last
stand_snapshot zero began s last bytes later is = absurd (omega (arith, later))
stand_snapshot (suc g) began s last bytes later is = (s, last, is, (refl, refl))

-- what is read as no stores does not stand in front
stand_front : (g began : ℕ) (s : Stores) (last : ℕ) (bytes : List ℕ) (records : List (List ℕ)) → 0 < g → ((t : Stores) (m : ℕ) → snapshot_at bytes ≢ Ok (t, m)) → ¬ (StandByGeneration g began (bytes ∷ records) s last)
stand_front zero began s last bytes records later none h = omega (arith, later)
stand_front (suc g) began s last bytes records later none h = none h.0 h.1 h.2

stand_none : (g began : ℕ) (s : Stores) (last : ℕ) → 0 < g → ¬ (StandByGeneration g began [] s last)
stand_none zero began s last later h = omega (arith, later)
stand_none (suc g) began s last later h = h

-- ---- what was read

-- no record was read, in generation 0
pub played_new : (reads : List (List ℕ) → Type 0) (g h : Header) (s : Stores) (last : ℕ) → g ≡ h → g.generation ≡ 0 → s ≡ start_stores g.began → last ≡ g.began → reads [] → IsPlayed reads h 0 s last
played_new reads g h s last same zero_is stores_are last_is read =
    let one : StandFor g [] s g.began = subst (λ (t : Stores). StandFor g [] t g.began) (sym stores_are) (stand_begins g zero_is) in
    let two : StandFor g [] s last = subst (λ (n : ℕ). StandFor g [] s n) (sym last_is) one in
    record { records = []; read = read; count = refl; stand = subst (λ (k : Header). StandFor k [] s last) same two }

-- a snapshot was read
pub played_snapshot : (reads : List (List ℕ) → Type 0) (h : Header) (s : Stores) (last : ℕ) (bytes : List ℕ) → 0 < h.generation → reads (bytes ∷ []) → snapshot_at bytes ≡ Ok (s, last) → IsPlayed reads h 1 s last
played_snapshot reads h s last bytes later read is = record {
  records = bytes ∷ [];
  read = read;
  count = refl;
  stand = stand_snapshot h.generation h.began s last bytes later is;
}

-- what was read is seen otherwise
pub played_as : (reads reads' : List (List ℕ) → Type 0) (h : Header) (number : ℕ) (s : Stores) (last : ℕ) → ((records : List (List ℕ)) → reads records → reads' records) → IsPlayed reads h number s last
    → IsPlayed reads' h number s last
played_as reads reads' h number s last other it = record { records = it.records; read = other it.records it.read; count = it.count; stand = it.stand }

pub lacks_as : (reads reads' : List (List ℕ) → Type 0) (ended ended' : Type 0) (h : Header) (number : ℕ) → ((records : List (List ℕ)) → reads records → reads' records) → (ended → ended')
    → LacksSnapshot reads ended h number → LacksSnapshot reads' ended' h number
lacks_as reads reads' ended ended' h number other ends it = record {
  later = it.later;
  first = it.first;
  fails = elim it.fails [
    | inl none ↦ inl (ends none)
    | inr bad ↦ inr (bad.0, other (bad.0 ∷ []) bad.1, bad.2)
  ];
}

-- ---- a file without one stands for no stores

pub none_in_front : (r : Reader) (file : List ℕ) (h : Header) → 0 < h.generation → HasEnded r file [] → StandsForNone h file
none_in_front r file h later it g records s last stands kept =
    let none : records ≡ [] = stands_for_one g r.header file records [] stands (inr (it.rounds, it.lies, it.same)) in
    stand_none h.generation h.began s last later (subst (λ (l : List (List ℕ)). StandFor h l s last) none kept)

pub other_in_front : (r : Reader) (file : List ℕ) (h : Header) (bytes : List ℕ) → 0 < h.generation → HasRead r file (bytes ∷ []) → ((t : Stores) (m : ℕ) → snapshot_at bytes ≢ Ok (t, m)) → StandsForNone h file
other_in_front r file h bytes later had none g records s last stands kept =
    let rest = read_first r file (bytes ∷ []) had g records stands in
    stand_front h.generation h.began s last bytes rest.0 later none (subst (λ (l : List (List ℕ)). StandFor h l s last) rest.1 kept)

-- ---- the paths of stores that are kept

keeps_paths : (s t : Stores) (last m : ℕ) (records : List (List ℕ)) → HasPaths s.map → KeepsAll s last records t m → HasPaths t.map
keeps_paths s t last m [] paths it = subst (λ (u : Stores). HasPaths u.map) (sym it.0) paths
keeps_paths s t last m (bytes ∷ records) paths it = keeps_paths it.0 t it.1 m records (notes_keep_paths s it.0 it.2.notes paths it.2.written.notes it.2.played) it.3

stand_paths : (g began : ℕ) (records : List (List ℕ)) (s : Stores) (last : ℕ) → StandByGeneration g began records s last → HasPaths s.map
stand_paths zero began records s last it = keeps_paths (start_stores began) s began last records (new_paths began) it
stand_paths (suc g) began [] s last it = absurd it
stand_paths (suc g) began (bytes ∷ records) s last it = keeps_paths it.0 s it.1 last records (snapshot_paths bytes it.0 it.1 it.2) it.3

pub kept_paths : (s : Stores) (last : ℕ) → HaveRecords s last → HasPaths s.map
kept_paths s last it = stand_paths it.0.generation it.0.began it.1 s last it.2

-- a snapshot alone stands for the stores that it is of
pub stand_goes_on : (h : Header) (s : Stores) (last : ℕ) (bytes : List ℕ) → 0 < h.generation → IsSnapshot s last bytes → HasPaths s.map → StandFor h (bytes ∷ []) s last
stand_goes_on h s last bytes later is paths = stand_snapshot h.generation h.began s last bytes later (snapshot_again s last bytes is paths)
