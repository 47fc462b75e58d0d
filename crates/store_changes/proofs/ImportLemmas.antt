-- How imports go on, and what their records stand for.
use Rattle.std.proofs.Common.{◌≡◌, ◌≤◌, ℕ, Bool, true, false, Option, Some, None, List, [], ◌∷◌, ◌++◌, refl, sym, ◌∙◌, ap, append_assoc, append-nil, subst, arith}
use Rattle.std.proofs.lemmas.Grind.{flat_map-append}
use Rattle.std.specs.List.{flat_map}
use Rattle.journal_core.specs.declared.header.Header.{Header}
use Rattle.dav_path_core.specs.Fronts.{Path}
use Rattle.dav_guarded_core.specs.Requests.{Refusal, Fs, Locked, NoLock, OutOfMemory}
use Rattle.dav_guarded_core.specs.Stores.{Stores}
use Rattle.dav_notes_core.specs.Changes.{lacks_memory}
use Rattle.dav_notes_core.specs.Noting.{Noted}
use Rattle.dav_notes_core.specs.PlayedNotes.{NotePlayed, NotesLead, NotesPlayed}
use Rattle.dav_notes_core.specs.Stepping.{SameLiveStores, live_stores}
use Rattle.dav_notes_core.proofs.LeadLemmas.{leads_join, leads_look}
use Rattle.dav_store_core.specs.StandingFor.{AreRecords, StandFor}
use Rattle.dav_store_core.proofs.KeepLemmas.{records_more, stand_back}
use Rattle.store_changes.specs.declared.adding.Unimported.{Unimported}
use Rattle.store_changes.specs.declared.adding.Unimported.TheVariants.{File, Folder, NoMoment, Unfinished}
use Rattle.store_changes.specs.declared.adding.Unimported.TheVariants as why
use Rattle.store_changes.specs.Adding.{IsAdded, LeavesAll, StaysLive, Refuses, RefusesBy, reason_for}
use Rattle.store_changes.specs.ImportedEntries.{Source, dating, making, notes_for, unnamed_note}
use Rattle.store_changes.specs.Importing.{IsImporting}

-- ---- notes of an entry

-- the stores refuse an entry for a reason that leaves all
pub leaves_for : (b : Bool) (x : Refusal) → LeavesAll (reason_for b x)
leaves_for true x = tt
leaves_for false (Fs e) = tt
leaves_for false (Locked l) = tt
leaves_for false NoLock = tt
leaves_for false OutOfMemory = tt

-- such a reason says nothing of what stands there, of the last moment, or of a part that was done
abbrev IsOfStores : Unimported → Type 0
IsOfStores File = ⊥
IsOfStores Folder = ⊥
IsOfStores NoMoment = ⊥
IsOfStores Unfinished = ⊥
IsOfStores _ = Unit {0}

of_stores : (b : Bool) (x : Refusal) → IsOfStores (reason_for b x)
of_stores true x = tt
of_stores false (Fs e) = tt
of_stores false (Locked l) = tt
of_stores false NoLock = tt
of_stores false OutOfMemory = tt

-- the error of an entry whose first request is refused
pub refused_as : (s s' : Stores) (last now : ℕ) (source : Source) (n : Noted) (e : Unimported) → n ≡ unnamed_note now (making source.path source.content) → RefusesBy s n s' e → Refuses s last now source e
refused_as s s' last now source n why.OutOfMemory is h = tt
refused_as s s' last now source n why.NoFolder is h = (s', subst (λ (k : Noted). RefusesBy s k s' why.NoFolder) is h)
refused_as s s' last now source n why.Locked is h = (s', subst (λ (k : Noted). RefusesBy s k s' why.Locked) is h)
refused_as s s' last now source n File is h = absurd (subst IsOfStores (sym h.1) (of_stores (lacks_memory h.0) h.0))
refused_as s s' last now source n Folder is h = absurd (subst IsOfStores (sym h.1) (of_stores (lacks_memory h.0) h.0))
refused_as s s' last now source n Unfinished is h = absurd (subst IsOfStores (sym h.1) (of_stores (lacks_memory h.0) h.0))
refused_as s s' last now source n NoMoment is h = absurd (subst IsOfStores (sym h.1) (of_stores (lacks_memory h.0) h.0))

abbrev first_or : Noted → List Noted → Noted
first_or d [] = d
first_or d (n ∷ ns) = n

-- the first note makes it
pub first_makes : (n : Noted) (ns : List Noted) (m : ℕ) (source : Source) → n ∷ ns ≡ notes_for m source → n ≡ unnamed_note m (making source.path source.content)
first_makes n ns m source is = ap (first_or n) is

-- where a part was done, the first of the notes was played
pub part_is_done : (s s' : Stores) (last m now : ℕ) (source : Source) (n : Noted) (ns : List Noted) → n ∷ ns ≡ notes_for m source → m ≡ now → NotePlayed s n s' → Refuses s last now source Unfinished
part_is_done s s' last m now source n ns is at played =
    subst (λ (k : ℕ). Refuses s last k source Unfinished) at (s', subst (λ (n : Noted). NotePlayed s n s') (first_makes n ns m source is) played)

-- ---- notes of one moment

abbrev AllAt : ℕ → List Noted → Type 0
AllAt m [] = Unit {0}
AllAt m (n ∷ ns) = (n.request.now ≡ m) × AllAt m ns

dated : (m : ℕ) (path : Path) (modified : Option ℕ) → AllAt m (dating m path modified)
dated m path None = tt
dated m path (Some x) = (refl, tt)

pub all_at : (m : ℕ) (source : Source) → AllAt m (notes_for m source)
all_at m source = (refl, dated m source.path source.modified)

pub leads_at : (last m : ℕ) (s t : Stores) (ns : List Noted) → AllAt m ns → last ≤ m → NotesPlayed s ns t → NotesLead last s ns m t
leads_at last m s t [] all le h = (le, ap (live_stores m) h)
leads_at last m s t (n ∷ ns) all le h =
    let before : last ≤ n.request.now = omega (arith, le, all.0) in
    let after : n.request.now ≤ m = omega (arith, all.0) in
    (before, (h.0, h.1, leads_at n.request.now m h.0 t ns all.1 after h.2))

-- ---- an entry more, or none

-- the requests of one entry more
pub flat_more : (requests : List (List Noted)) (ns : List Noted) → flat_map (λ (l : List Noted). l) requests ++ ns ≡ flat_map (λ l. l) (requests ++ ns ∷ [])
flat_more requests ns =
    ap (λ (l : List Noted). flat_map (λ k. k) requests ++ l) (sym (append-nil ns)) ∙ sym (flat_map-append (λ (l : List Noted). l) requests (ns ∷ []))

module _ (base s t : Stores) (from last m : ℕ) (made : List (List ℕ)) (old new : List (List ℕ) → Type 0) (i : IsImporting base from made old s last) where
  unfoldable pub imports_more : (clock : ℕ) (source : Source) → IsAdded s last clock source t m (λ bytes. (records : List (List ℕ)) → old records → new (records ++ bytes ∷ [])) → IsImporting base from made new t m
  imports_more clock source a =
      let le : last ≤ m = omega (arith, a.moment) in
      record {
        requests = i.requests ++ notes_for m source ∷ [];
        waiting = i.waiting ++ a.bytes ∷ [];
        are = subst (λ (l : List (List ℕ)). AreRecords (i.requests ++ notes_for m source ∷ []) l) (append_assoc made i.waiting (a.bytes ∷ []))
            (records_more i.requests (made ++ i.waiting) (notes_for m source) a.bytes i.are a.written);
        carried = a.joined i.waiting i.carried;
        leads = subst (λ (l : List Noted). NotesLead from base l m t) (flat_more i.requests (notes_for m source))
            (leads_join from last m base s t (flat_map (λ l. l) i.requests) (notes_for m source) i.leads (leads_at last m s t (notes_for m source) (all_at m source) le a.played));
      }

  unfoldable pub imports_left : StaysLive s last t m → ((records : List (List ℕ)) → old records → new records) → IsImporting base from made new t m
  imports_left left round = record {
    requests = i.requests;
    waiting = i.waiting;
    are = i.are;
    carried = round i.waiting i.carried;
    leads = leads_look from last m base s t (flat_map (λ l. l) i.requests) i.leads left.0 left.1;
  }

-- ---- a round

module _ (base s : Stores) (from last : ℕ) (made : List (List ℕ)) (old new : List (List ℕ) → Type 0) (i : IsImporting base from made old s last) where
  unfoldable pub imports_appended : new [] → IsImporting base from (made ++ i.waiting) new s last
  imports_appended empty = record {
    requests = i.requests;
    waiting = [];
    are = subst (λ (l : List (List ℕ)). AreRecords i.requests l) (sym (append-nil (made ++ i.waiting))) i.are;
    carried = empty;
    leads = i.leads;
  }

  pub imports_stand : (h : Header) (records : List (List ℕ)) → StandFor h records base from
      → (t : Stores) × (m : ℕ) × StandFor h (records ++ (made ++ i.waiting)) t m × SameLiveStores last s t × (m ≤ last)
  imports_stand h records stand = stand_back h records base s from last i.requests (made ++ i.waiting) stand i.are i.leads

pub imports_begin : (s : Stores) (last : ℕ) (carries : List (List ℕ) → Type 0) → carries [] → IsImporting s last [] carries s last
imports_begin s last carries empty =
    let le : last ≤ last = omega arith in record { requests = []; waiting = []; are = tt; carried = empty; leads = (le, refl) }
