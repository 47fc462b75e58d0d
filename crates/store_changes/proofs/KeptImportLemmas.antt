-- How the additions of an import go on, and what is kept of them in a journal.
use Rattle.std.proofs.Common.{◌≡◌, ◌≤◌, ◌+◌, ℕ, Bool, IsTrue, Result, Ok, Err, IfOk, OnOk, List, [], ◌∷◌, ◌++◌, length, refl, sym, ◌∙◌, ap, append_assoc, append-nil, length-append, suc, subst, arith, inr}
use Rattle.journal_core.specs.declared.header.Header.{Header}
use Rattle.journal_core.specs.declared.journal.Journal.{Journal}
use Rattle.journal_core.specs.declared.round.Round.{Round}
use Rattle.journal_core.specs.Format.{Lies}
use Rattle.journal_core.specs.Resting.{Carries, IsSettled, disk_behind, header_in}
use Rattle.journal_core.proofs.Records.{none_left}
use Rattle.dav_guarded_core.specs.Stores.{Stores}
use Rattle.dav_notes_core.specs.Noting.{Noted}
use Rattle.dav_store_core.specs.Loading.{IsLoaded}
use Rattle.dav_store_core.specs.StandingFor.{AreRecords}
use Rattle.store_changes.specs.declared.additions.Additions.{Additions}
use Rattle.store_changes.specs.declared.additions.Counts.{Counts}
use Rattle.store_changes.specs.Adding.{IsAdded, StaysLive}
use Rattle.store_changes.specs.ImportedEntries.{Source, notes_for}
use Rattle.store_changes.specs.KeptImports.{AddsOn, HasAdded, HoldsImport, IsImportedInto, IsImportingInto, ImportsOn, EndsImport, StandsButLocks, count_of}
use Rattle.store_changes.proofs.ImportLemmas.{imports_appended, imports_begin, imports_left, imports_more, imports_stand}

-- there are as many records as requests
pub as_many : (requests : List (List Noted)) (records : List (List ℕ)) → AreRecords requests records → length requests ≡ length records
as_many [] [] are = refl
as_many (ns ∷ requests) (bytes ∷ records) are = ap (λ n. suc n) (as_many requests records are.1)
as_many [] (bytes ∷ records) are = absurd are
as_many (ns ∷ requests) [] are = absurd are

-- ---- additions

-- an entry more, and one more in the count at most
pub adds_one : (a a' : Additions) (clock : ℕ) (source : Source)
    → IsAdded a.opened.stores a.opened.last.0 clock source a'.opened.stores a'.opened.last.0 (λ bytes. (records : List (List ℕ)) → Carries a.round records → Carries a'.round (records ++ bytes ∷ []))
    → a'.files + a'.folders ≤ a.files + a.folders + 1 → AddsOn a a'
unfolding imports_more
adds_one a a' clock source is one = λ base from made h.
    let more = imports_more base a.opened.stores a'.opened.stores from a.opened.last.0 a'.opened.last.0 made (Carries a.round) (Carries a'.round) h.importing clock source is in
    record {
      importing = more;
      counted = omega (arith, one, h.counted, length-append h.importing.requests (notes_for a'.opened.last.0 source ∷ []));
    }

-- an entry that is left out
pub adds_none : (a a' : Additions) → StaysLive a.opened.stores a.opened.last.0 a'.opened.stores a'.opened.last.0 → ((records : List (List ℕ)) → Carries a.round records → Carries a'.round records)
    → a'.files + a'.folders ≤ a.files + a.folders → AddsOn a a'
unfolding imports_left
adds_none a a' live round none = λ base from made h. record {
  importing = imports_left base a.opened.stores a'.opened.stores from a.opened.last.0 a'.opened.last.0 made (Carries a.round) (Carries a'.round) h.importing live round;
  counted = omega (arith, none, h.counted);
}

-- nothing was added
pub adds_same : (a a' : Additions) → a' ≡ a → AddsOn a a'
adds_same a a' same = λ base from made h. subst (λ (b : Additions). HasAdded base from made b) (sym same) h

pub adds_join : (a b c : Additions) → AddsOn a b → AddsOn b c → AddsOn a c
adds_join a b c one two = λ base from made h. two base from made (one base from made h)

-- something was added, and nothing behind it, whatever a call answers
pub adds_then : {T E : Type 0} (r : Result T E) (a b c : Additions) → AddsOn a b → c ≡ b → OnOk r (AddsOn a c)
adds_then (Ok x) a b c on same = adds_join a b c on (adds_same b c same)
adds_then (Err e) a b c on same = tt

-- what has no record yet, and counts none, begins an import
pub adds_begin : (a : Additions) → Carries a.round [] → a.files + a.folders ≤ 0 → HasAdded a.opened.stores a.opened.last.0 [] a
adds_begin a empty none = record { importing = imports_begin a.opened.stores a.opened.last.0 (Carries a.round) empty; counted = omega (arith, none) }

-- ---- in a journal

module _ {D B : Type 0} (seen : D → List ℕ) (may_leave : D → List ℕ → Type 0) (is_clean : D → Bool) where
  -- the records that an append adds
  pub settled_more : (j j' : Journal D B) (records made waiting : List (List ℕ)) (round : Round) → IsSettled seen may_leave is_clean j (records ++ made) → Carries round waiting
      → ((old new : List (List ℕ)) → IsSettled seen may_leave is_clean j old → Carries round new → IsSettled seen may_leave is_clean j' (old ++ new))
      → IsSettled seen may_leave is_clean j' (records ++ (made ++ waiting))
  settled_more j j' records made waiting round settled carried appended =
      subst (λ (l : List (List ℕ)). IsSettled seen may_leave is_clean j' l) (append_assoc records made waiting) (appended (records ++ made) waiting settled carried)

  -- a round that is appended, and the next one
  pub keeps_appended : (j j' : Journal D B) (a : Additions) (next : Round) (count : ℕ)
      → ((old new : List (List ℕ)) → IsSettled seen may_leave is_clean j old → Carries a.round new → IsSettled seen may_leave is_clean j' (old ++ new))
      → Carries next [] → ImportsOn seen may_leave is_clean j a j' (record a { round = next; records = count })
  unfolding imports_appended
  keeps_appended j j' a next count appended empty = λ records base from i.
      let h = i.added.importing in
      record {
        made = i.made ++ h.waiting;
        settled = settled_more j j' records i.made h.waiting a.round i.settled h.carried appended;
        added = record {
          importing = imports_appended base a.opened.stores from a.opened.last.0 i.made (Carries a.round) (Carries next) h empty;
          counted = i.added.counted;
        };
      }

  -- a round that has no record any more
  pub keeps_all : (j : Journal D B) (records : List (List ℕ)) (base : Stores) (from : ℕ) (a : Additions) → IsImportingInto seen may_leave is_clean j records base from a → Carries a.round []
      → IsImportedInto seen may_leave is_clean j records base from a.opened.stores a.opened.last.0 (a.files + a.folders)
  keeps_all j records base from a i empty =
      let h = i.added.importing in
      let none : h.waiting ≡ [] = none_left h.waiting (ap length (sym h.carried ∙ empty)) in
      let made : i.made ++ h.waiting ≡ i.made = ap (λ (l : List (List ℕ)). i.made ++ l) none ∙ append-nil i.made in
      let count : length h.requests ≡ length i.made = as_many h.requests (i.made ++ h.waiting) h.are ∙ ap length made in
      record {
        made = i.made;
        settled = i.settled;
        counted = subst (λ (n : ℕ). a.files + a.folders ≤ n) count i.added.counted;
        stand = λ header stood. subst (λ (l : List (List ℕ)). StandsButLocks header (records ++ l) a.opened.stores a.opened.last.0) made
            (imports_stand base a.opened.stores from a.opened.last.0 i.made (Carries a.round) (Carries a.round) h header records stood);
      }

  -- ---- steps, one behind another

  -- something more was added, and nothing appended
  pub adds_on : (j : Journal D B) (a a' : Additions) → AddsOn a a' → ImportsOn seen may_leave is_clean j a j a'
  adds_on j a a' on = λ records base from i. record { made = i.made; settled = i.settled; added = on base from i.made i.added }

  pub on_same : (j : Journal D B) (a : Additions) → ImportsOn seen may_leave is_clean j a j a
  on_same j a = λ records base from i. i

  pub on_join : (j k l : Journal D B) (a b c : Additions) → ImportsOn seen may_leave is_clean j a k b → ImportsOn seen may_leave is_clean k b l c → ImportsOn seen may_leave is_clean j a l c
  on_join j k l a b c one two = λ records base from i. two records base from (one records base from i)

  pub on_ends : (j k l : Journal D B) (a b c : Additions) (counts : Counts) → ImportsOn seen may_leave is_clean j a k b → EndsImport seen may_leave is_clean k b l c counts → EndsImport seen may_leave is_clean j a l c counts
  on_ends j k l a b c counts one ends = (ends.0, λ records base from i. ends.1 records base from (one records base from i))

  -- by what a call answers
  pub adds_if : {T E : Type 0} (r : Result T E) (j k : Journal D B) (a b c : Additions) → ImportsOn seen may_leave is_clean j a k b → OnOk r (AddsOn b c) → OnOk r (ImportsOn seen may_leave is_clean j a k c)
  adds_if (Ok x) j k a b c on h = on_join j k k a b c on (adds_on k b c h)
  adds_if (Err e) j k a b c on h = tt

  pub ends_if : {E : Type 0} (r : Result Counts E) (j k l : Journal D B) (a b c : Additions) → ImportsOn seen may_leave is_clean j a k b → IfOk r (λ counts. EndsImport seen may_leave is_clean k b l c counts)
      → IfOk r (λ counts. EndsImport seen may_leave is_clean j a l c counts)
  ends_if (Ok counts) j k l a b c on h = on_ends j k l a b c counts on h
  ends_if (Err e) j k l a b c on h = tt

  -- ---- an import into the stores that were read

  pub holds_import : (j k : Journal D B) (file : List ℕ) (h : Header) (s : Stores) (last : ℕ) (a b : Additions) (counts : Counts) → IsLoaded seen may_leave is_clean j h s last → seen (disk_behind j) ≡ file → header_in j ≡ h
      → HasAdded s last [] a → EndsImport seen may_leave is_clean j a k b counts → HoldsImport seen may_leave is_clean file h k (count_of counts)
  holds_import j k file h s last a b counts loaded same header begun ends =
      let none : loaded.records ++ [] ≡ loaded.records = append-nil loaded.records in
      let lies : Lies h file loaded.settled.rounds = subst (λ (g : Header). Lies g file loaded.settled.rounds) header (subst (λ (f : List ℕ). Lies j.header f loaded.settled.rounds) same loaded.settled.lies) in
      record {
        records = loaded.records;
        base = s;
        from = last;
        stores = b.opened.stores;
        last = b.opened.last.0;
        stood = inr (loaded.settled.rounds, lies, loaded.settled.same);
        stand = loaded.stand;
        imported = ends.1 loaded.records s last (record { made = []; settled = subst (λ (l : List (List ℕ)). IsSettled seen may_leave is_clean j l) (sym none) loaded.settled; added = begun });
      }

  pub holds_if : {E : Type 0} (r : Result Counts E) (j k : Journal D B) (file : List ℕ) (h : Header) (s : Stores) (last : ℕ) (a b : Additions) (reads only : Type 0)
      → (reads → IsTrue (is_clean (disk_behind j)) → only → IsLoaded seen may_leave is_clean j h s last) → seen (disk_behind j) ≡ file → (reads → header_in j ≡ h) → HasAdded s last [] a
      → is_clean (disk_behind k) ≡ is_clean (disk_behind j) → IfOk r (λ counts. EndsImport seen may_leave is_clean j a k b counts)
      → IfOk r (λ counts. reads → IsTrue (is_clean (disk_behind k)) → only → HoldsImport seen may_leave is_clean file h k (count_of counts))
  holds_if (Ok counts) j k file h s last a b reads only loaded same header begun clean ends = λ being honest durable.
      holds_import j k file h s last a b counts (loaded being (subst (λ (t : Bool). IsTrue t) clean honest) durable) same (header being) begun ends
  holds_if (Err e) j k file h s last a b reads only loaded same header begun clean ends = tt
