-- How a journal is loaded, one record after another.
use Rattle.std.proofs.Common.{◌≡◌, ◌+◌, ℕ, List, [], ◌∷◌, ◌++◌, Bool, length-append, Result, Err, refl, ◌∙◌, ap, subst, arith}
use Rattle.journal_core.specs.declared.error.JournalError.{JournalError}
use Rattle.journal_core.specs.declared.header.Header.{Header}
use Rattle.journal_core.specs.declared.journal.Journal.{Journal}
use Rattle.journal_core.specs.declared.reader.Reader.{Reader}
use Rattle.journal_core.specs.Clocked.{SeesSame}
use Rattle.journal_core.proofs.MomentLaws.{goes_not, goes_two, joined, leaves_weaker, none}
use Rattle.journal_core.specs.Clocked.{CrashLeaves}
use Rattle.journal_core.specs.JournalReading.{HasRead}
use Rattle.journal_core.specs.Resting.{clocked_of, disk_behind}
use Rattle.journal_core.proofs.Causes.{cause_of}
use Rattle.journal_core.proofs.Opening.{read_first}
use Rattle.dav_guarded_core.specs.Stores.{Stores}
use Rattle.dav_store_core.specs.StandingFor.{Keeps, StandFor}
use Rattle.dav_store_core.specs.declared.error.StoreError.{StoreError}
use Rattle.dav_store_core.specs.declared.error.StoreError.TheVariants.{Journal as JournalFault, Damaged}
use Rattle.dav_store_core.specs.Loading.{HasLoadCause, IsPlayed, StandsForNone, StopsThere, WritesNothing}
use Rattle.dav_store_core.proofs.KeepLemmas.{stand_more, stand_not}

module _ {D B : Type 0} (seen : D → List ℕ) (may_leave : D → List ℕ → Type 0) (is_clean : D → Bool) where
  pub nothing_two : (note : B) (old mid new : Journal D B) → WritesNothing seen may_leave is_clean note old mid → WritesNothing seen may_leave is_clean note mid new
      → WritesNothing seen may_leave is_clean note old new
  nothing_two note old mid new a b = record {
    seen_is = b.seen_is ∙ a.seen_is;
    moments = goes_two SeesSame seen (clocked_of old) (clocked_of mid) (clocked_of new) a.moments b.moments;
    any_moment = joined (CrashLeaves may_leave note (may_leave (disk_behind old))) (clocked_of old) (clocked_of mid) (clocked_of new) a.any_moment
        (leaves_weaker may_leave note (may_leave (disk_behind mid)) (may_leave (disk_behind old)) a.crash (clocked_of mid) (clocked_of new) b.any_moment);
    crash = λ c left. a.crash c (b.crash c left);
    clean = λ clean. a.clean (b.clean clean);
  }

-- behind one record more
pub played_more : (reads reads' : List (List ℕ) → Type 0) (h : Header) (number : ℕ) (s t : Stores) (last m : ℕ) (bytes : List ℕ) → (it : IsPlayed reads h number s last) → reads' (it.records ++ bytes ∷ [])
    → Keeps s last bytes t m → IsPlayed reads' h (number + 1) t m
played_more reads reads' h number s t last m bytes it read keeps = record {
  records = it.records ++ bytes ∷ [];
  read = read;
  count = omega (arith, length-append it.records (bytes ∷ []), it.count);
  stand = stand_more h.generation h.began s t last m it.records bytes it.stand keeps;
}

-- at a record that cannot be done
pub stops_there : (reads reads' : List (List ℕ) → Type 0) (h : Header) (number : ℕ) (s : Stores) (last : ℕ) (bytes : List ℕ) → (it : IsPlayed reads h number s last) → reads' (it.records ++ bytes ∷ [])
    → ((v : Stores) (k : ℕ) → ¬ (Keeps s last bytes v k)) → StopsThere reads' h number
stops_there reads reads' h number s last bytes it read none = record {
  front = it.records;
  bytes = bytes;
  stores = s;
  last = last;
  read = read;
  count = it.count;
  stand = it.stand;
  fails = none;
}

-- a file with such a record stands for no stores
pub loads_not : (reads : List (List ℕ) → Type 0) (r : Reader) (h : Header) (number : ℕ) (file : List ℕ) → (it : StopsThere reads h number) → HasRead r file (it.front ++ it.bytes ∷ [])
    → StandsForNone h file
loads_not reads r h number file it had g records t n stands kept =
    let rest = read_first r file (it.front ++ it.bytes ∷ []) had g records stands in
    stand_not h.generation h.began it.stores t it.last n it.front rest.0 it.bytes it.stand it.fails (subst (λ (l : List (List ℕ)). StandFor h l t n) rest.1 kept)

-- what tells that a call failed tells it of a longer run
pub cause_longer : (P Q : Type 0) (stops : ℕ → Type 0) (e : StoreError) → (P → Q) → HasLoadCause P stops e → HasLoadCause Q stops e
cause_longer P Q stops (JournalFault e) goes it = cause_of P Q e goes it
cause_longer P Q stops (Damaged number) goes it = it

-- a record that is at fault is so by other words
pub cause_as : (P : Type 0) (stops stops' : ℕ → Type 0) (e : StoreError) → ((number : ℕ) → stops number → stops' number) → HasLoadCause P stops e → HasLoadCause P stops' e
cause_as P stops stops' (JournalFault e) other it = it
cause_as P stops stops' (Damaged number) other it = other number it

-- two errors of a journal that are told alike
pub journal_same : {T : Type 0} (a b : JournalError) → ◌≡◌ {A = Result T StoreError} (Err (JournalFault a)) (Err (JournalFault b)) → a ≡ b
journal_same {T} a b is = ap of is
  where
    of : Result T StoreError → JournalError
    of (Err (JournalFault e)) = e
    of _ = a
