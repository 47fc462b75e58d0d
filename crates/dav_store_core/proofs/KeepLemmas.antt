-- How records stand for stores.
use Rattle.std.proofs.Common.{◌≡◌, ◌≤◌, ℕ, zero, suc, List, [], ◌∷◌, ◌++◌, refl, sym, ◌∙◌, ap, append_assoc, subst}
use Rattle.std.proofs.lemmas.List.{append-nil}
use Rattle.std.proofs.lemmas.List.Concat.{flat_map-cons}
use Rattle.std.specs.List.{flat_map}
use Rattle.journal_core.specs.declared.header.Header.{Header}
use Rattle.dav_guarded_core.specs.Stores.{Stores, start_stores}
use Rattle.dav_notes_core.specs.Noting.{Noted}
use Rattle.dav_notes_core.specs.PlayedNotes.{NotesLead, NotesPlayed}
use Rattle.dav_notes_core.specs.Stepping.{SameLiveStores}
use Rattle.dav_notes_core.proofs.LeadLemmas.{played_alike}
use Rattle.dav_effects_core.specs.Records.{IsRecord}
use Rattle.dav_effects_core.proofs.Exact.{ok_is}
use Rattle.dav_effects_core.proofs.NoteForms.{record_again}
use Rattle.dav_store_core.specs.StandingFor.{AreRecords, Keeps, KeepsAll, NeverBack, StandFor, StandByGeneration, last_moment_of}

-- bytes are the record of one list of notes
pub one_reading : (ns ms : List Noted) (bytes : List ℕ) → IsRecord ns bytes → IsRecord ms bytes → ns ≡ ms
one_reading ns ms bytes a b = ok_is ns ms (sym (record_again ns bytes a) ∙ record_again ms bytes b)

-- a record stands for one change of the stores
pub keeps_one : (s t u : Stores) (last m n : ℕ) (bytes : List ℕ) → Keeps s last bytes t m → Keeps s last bytes u n → (t ≡ u) × (m ≡ n)
keeps_one s t u last m n bytes a b =
    let same = one_reading a.notes b.notes bytes a.written b.written in (
      played_alike s t u a.notes a.played (subst (λ (ns : List Noted). NotesPlayed s ns u) (sym same) b.played),
      a.last_is ∙ ap (last_moment_of last) same ∙ sym b.last_is,
    )

-- what stands behind records begins with what they stand for
pub keeps_behind : (s t u : Stores) (last m n : ℕ) (records rest : List (List ℕ)) → KeepsAll s last records t m → KeepsAll s last (records ++ rest) u n → KeepsAll t m rest u n
keeps_behind s t u last m n [] rest a b = subst (λ (v : Stores). KeepsAll v m rest u n) (sym a.0) (subst (λ (k : ℕ). KeepsAll s k rest u n) (sym a.1) b)
keeps_behind s t u last m n (first ∷ records) rest a b =
    let one = keeps_one s a.0 b.0 last a.1 b.1 first a.2 b.2 in
    keeps_behind a.0 t u a.1 m n records rest a.3 (subst (λ (v : Stores). KeepsAll v a.1 (records ++ rest) u n) (sym one.0) (subst (λ (k : ℕ). KeepsAll b.0 k (records ++ rest) u n) (sym one.1) b.3))

-- of notes that lead from stores to others, the first ones are played there
record Led (from : ℕ) (s : Stores) (ns ms : List Noted) (now : ℕ) (t : Stores) : Type 0 where
  pub mid : Stores
  pub ordered : NeverBack from ns
  pub played : NotesPlayed s ns mid
  pub leads : NotesLead (last_moment_of from ns) mid ms now t

led : (from : ℕ) (s : Stores) (ns ms : List Noted) (now : ℕ) (t : Stores) → NotesLead from s (ns ++ ms) now t → Led from s ns ms now t
led from s [] ms now t h = record { mid = s; ordered = tt; played = refl; leads = h }
led from s (n ∷ ns) ms now t h =
    let rest = led n.request.now h.1.0 ns ms now t h.1.2 in
    record { mid = rest.mid; ordered = (h.0, rest.ordered); played = (h.1.0, h.1.1, rest.played); leads = rest.leads }

-- the records of notes that lead from stores to others stand for these, but for locks that have expired
pub come_back : (requests : List (List Noted)) (records : List (List ℕ)) (from now : ℕ) (s t : Stores) → AreRecords requests records → NotesLead from s (flat_map (λ ns. ns) requests) now t
    → (v : Stores) × (last : ℕ) × KeepsAll s from records v last × SameLiveStores now t v × (last ≤ now)
come_back [] [] from now s t are h = (s, from, (refl, refl), sym h.1, h.0)
come_back (ns ∷ requests) (bytes ∷ records) from now s t are h =
    let first = led from s ns (flat_map (λ (ms : List Noted). ms) requests) now t (subst (λ (l : List Noted). NotesLead from s l now t) (flat_map-cons (λ (ms : List Noted). ms) ns requests) h) in
    let rest = come_back requests records (last_moment_of from ns) now first.mid t are.1 first.leads in (
      rest.0,
      rest.1,
      (first.mid, last_moment_of from ns, record { notes = ns; written = are.0; ordered = first.ordered; played = first.played; last_is = refl }, rest.2),
      rest.3,
      rest.4,
    )
come_back [] (bytes ∷ records) from now s t are h = absurd are
come_back (ns ∷ requests) [] from now s t are h = absurd are

-- records behind others
pub keeps_join : (s t u : Stores) (last m n : ℕ) (records rest : List (List ℕ)) → KeepsAll s last records t m → KeepsAll t m rest u n → KeepsAll s last (records ++ rest) u n
keeps_join s t u last m n [] rest a b = subst (λ (v : Stores). KeepsAll v last rest u n) a.0 (subst (λ (k : ℕ). KeepsAll t k rest u n) a.1 b)
keeps_join s t u last m n (first ∷ records) rest a b = (a.0, a.1, a.2, keeps_join a.0 t u a.1 m n records rest a.3 b)

-- ---- records of a journal of any generation

-- records behind others
pub stand_join : (g began : ℕ) (s t : Stores) (last m : ℕ) (records rest : List (List ℕ)) → StandByGeneration g began records s last → KeepsAll s last rest t m → StandByGeneration g began (records ++ rest) t m
stand_join zero began s t last m records rest a b = keeps_join (start_stores began) s t began last m records rest a b
stand_join (suc g) began s t last m [] rest a b = absurd a
stand_join (suc g) began s t last m (first ∷ records) rest a b = (a.0, a.1, a.2, keeps_join a.0 s t a.1 last m records rest a.3 b)

-- one more record
pub stand_more : (g began : ℕ) (s t : Stores) (last m : ℕ) (records : List (List ℕ)) (bytes : List ℕ) → StandByGeneration g began records s last → Keeps s last bytes t m → StandByGeneration g began (records ++ bytes ∷ []) t m
stand_more g began s t last m records bytes a b = stand_join g began s t last m records (bytes ∷ []) a (t, m, b, (refl, refl))

-- what stands behind records begins with what they stand for
pub stand_behind : (g began : ℕ) (s t : Stores) (last m : ℕ) (records rest : List (List ℕ)) → StandByGeneration g began records s last → StandByGeneration g began (records ++ rest) t m → KeepsAll s last rest t m
stand_behind zero began s t last m records rest a b = keeps_behind (start_stores began) s t began last m records rest a b
stand_behind (suc g) began s t last m [] rest a b = absurd a
stand_behind (suc g) began s t last m (first ∷ records) rest a b =
    let same : (a.0, a.1) ≡ (b.0, b.1) = ok_is (a.0, a.1) (b.0, b.1) (sym a.2 ∙ b.2) in
    keeps_behind a.0 s t a.1 last m records rest a.3 (subst (λ (x : Stores × ℕ). KeepsAll x.0 x.1 (records ++ rest) t m) (sym same) b.3)

-- where a record cannot be taken, no records with it stand for stores
pub stand_not : (g began : ℕ) (s t : Stores) (last m : ℕ) (records rest : List (List ℕ)) (bytes : List ℕ) → StandByGeneration g began records s last → ((v : Stores) (k : ℕ) → ¬ (Keeps s last bytes v k))
    → ¬ (StandByGeneration g began ((records ++ bytes ∷ []) ++ rest) t m)
stand_not g began s t last m records rest bytes a none b =
    let behind = stand_behind g began s t last m records (bytes ∷ rest) a (subst (λ (l : List (List ℕ)). StandByGeneration g began l t m) (append_assoc records (bytes ∷ []) rest) b) in
    none behind.0 behind.1 behind.2

-- records stand for one state of the stores
pub stand_one : (g began : ℕ) (s t : Stores) (last m : ℕ) (records : List (List ℕ)) → StandByGeneration g began records s last → StandByGeneration g began records t m → (s ≡ t) × (last ≡ m)
stand_one g began s t last m records a b =
    let behind = stand_behind g began s t last m records [] a (subst (λ (l : List (List ℕ)). StandByGeneration g began l t m) (sym (append-nil records)) b) in (sym behind.0, sym behind.1)

-- no record stands for a root folder alone, in generation 0
pub stand_begins : (h : Header) → h.generation ≡ 0 → StandFor h [] (start_stores h.began) h.began
stand_begins h zero_is = subst (λ (g : ℕ). StandByGeneration g h.began [] (start_stores h.began) h.began) (sym zero_is) (refl, refl)

-- Behind records that stand for stores, the records of notes that lead from there to others stand for these, but for locks that have expired.
pub stand_back : (h : Header) (old : List (List ℕ)) (base s : Stores) (from now : ℕ) (requests : List (List Noted)) (records : List (List ℕ)) → StandFor h old base from → AreRecords requests records
    → NotesLead from base (flat_map (λ ns. ns) requests) now s → (t : Stores) × (last : ℕ) × StandFor h (old ++ records) t last × SameLiveStores now s t × (last ≤ now)
stand_back h old base s from now requests records stand are leads =
    let back = come_back requests records from now base s are leads in (
      back.0,
      back.1,
      stand_join h.generation h.began base back.0 from back.1 old records stand back.2,
      back.3,
      back.4,
    )

-- the record of one more list of notes
pub records_more : (requests : List (List Noted)) (records : List (List ℕ)) (ns : List Noted) (bytes : List ℕ) → AreRecords requests records → IsRecord ns bytes → AreRecords (requests ++ ns ∷ []) (records ++ bytes ∷ [])
records_more [] [] ns bytes are w = (w, tt)
records_more (ms ∷ requests) (first ∷ records) ns bytes are w = (are.0, records_more requests records ns bytes are.1 w)
records_more [] (first ∷ records) ns bytes are w = absurd are
records_more (ms ∷ requests) [] ns bytes are w = absurd are
