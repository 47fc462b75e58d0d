-- Calls that write nothing below a place.
use Rattle.std.proofs.Common.{◌≡◌, ℕ, ◌+◌, ◌<◌, ◌≤◌, List, [], ◌∷◌, ◌++◌, length, drop, slice_index, sym, ◌∙◌, ap, subst, arith, append_assoc, length-append, Result, Ok, Err, IsErrAnd, OnErr, OnOk, Bool, IsTrue, is_ok, refl}
use Rattle.std.proofs.lemmas.List.{get_or_append_left}
use Rattle.std.specs.declared.io.Error.{Error}
use Rattle.sqlite_disk.specs.Disk.{CountsFault, Holds, Torn, Follows, MoreFaults}
use Rattle.sqlite_disk.specs.Refusal.{finds_no_room}
use Rattle.std.specs.Prelude.{MatchBool}
use Rattle.sqlite_disk.specs.declared.tally.Tally.{Tally}
use Rattle.journal_core.specs.declared.clocked.Clocked.{Clocked}
use Rattle.journal_core.specs.Clocked.{disk_of, past_of, CrashLeaves}
use Rattle.journal_core.specs.Private.DiskMoments.{none, joined, one_call, goes_call, goes_not, goes_two, goes_weaker}
use Rattle.journal_core.specs.Private.Stages.{AllBegin, BeginsWith, IsCounted, KeepsBelow, WritesBehind}
use Rattle.journal_core.proofs.Parts.{begins}
use Rattle.journal_core.proofs.Writes.{written}

-- nothing is written
pub torn_same : (at n : ℕ) (d : List ℕ) → Torn at n d d
torn_same at n d = record { no_shorter = omega arith; no_longer = omega arith; below = λ i low before. refl; above = λ i low behind. refl }

-- a write behind it
pub torn_begins : (front : List ℕ) (at n : ℕ) (d c : List ℕ) → length front ≤ at → BeginsWith front d → Torn at n d c → BeginsWith front c
torn_begins front at n d c low it torn =
    let len : length d ≡ length front + length it.0 = ap length it.1 ∙ length-append front it.0 in
    let same : (i : ℕ) → i < length front → slice_index c i ≡ slice_index front i = λ i below.
    torn.below i (omega (arith, below, len)) (omega (arith, below, low)) ∙ ap (λ (l : List ℕ). slice_index l i) it.1 ∙ get_or_append_left front it.0 0 i below in
    (drop (length front) c, begins c front (omega (arith, len, torn.no_shorter)) same)

-- a write right behind it, which is done
pub piece_there : (front text d c : List ℕ) (at : ℕ) → length front ≡ at → BeginsWith front d → Torn at (length text) d c → Holds c at text → BeginsWith (front ++ text) c
piece_there front text d c at place it torn holds =
    let torn' : Torn (length front) (length text) (front ++ it.0) c = subst (λ (f : List ℕ). Torn (length front) (length text) f c) it.1 (subst (λ k. Torn k (length text) d c) (sym place) torn) in
    let holds' : Holds c (length front) text = subst (λ k. Holds c k text) (sym place) holds in
    let rest = drop (length text) (drop (length front) c) in
    (rest, written front it.0 text c torn' holds' ∙ sym (append_assoc front text rest))

keeps_not : (place : ℕ) (d : List ℕ) → KeepsBelow place d d
keeps_not place d = record { longer = omega arith; begins = λ front low it. it }

keeps_less : (place more : ℕ) → place ≤ more → (d c : List ℕ) → KeepsBelow more d c → KeepsBelow place d c
keeps_less place more less d c it = record { longer = it.longer; begins = λ front low. it.begins front (omega (arith, low, less)) }

pub keeps_same : (place : ℕ) (d c : List ℕ) → c ≡ d → KeepsBelow place d c
keeps_same place d c same = subst (λ (f : List ℕ). KeepsBelow place d f) (sym same) (keeps_not place d)

keeps_torn : (place n : ℕ) (d c : List ℕ) → Torn place n d c → KeepsBelow place d c
keeps_torn place n d c torn = record { longer = torn.no_shorter; begins = λ front low it. torn_begins front place n d c low it torn }

module _ {D B : Type 0} (seen : D → List ℕ) (may_leave : D → List ℕ → Type 0) (note : B) where
  -- below less it writes nothing either
  pub behind_less : (place more : ℕ) (old new : Clocked D B) → place ≤ more → WritesBehind seen may_leave note more old new → WritesBehind seen may_leave note place old new
  behind_less place more old new less it = record { crash = λ front low all. it.crash front (omega (arith, low, less)) all; any_moment = λ front low all. it.any_moment front (omega (arith, low, less)) all; moments = goes_weaker (KeepsBelow more) seen (KeepsBelow place) (keeps_less place more less) old new it.moments }

  -- no call
  pub behind_not : (place : ℕ) (k : Clocked D B) → WritesBehind seen may_leave note place k k
  behind_not place k = record { crash = λ front low all. all; any_moment = λ front low all. none (CrashLeaves may_leave note (BeginsWith front)) k; moments = goes_not (KeepsBelow place) seen k }

  pub behind_two : (place : ℕ) (old mid new : Clocked D B) → WritesBehind seen may_leave note place old mid → WritesBehind seen may_leave note place mid new → WritesBehind seen may_leave note place old new
  behind_two place old mid new a b = record {
    crash = λ front low all. b.crash front low (a.crash front low all);
    any_moment = λ front low all. joined (CrashLeaves may_leave note (BeginsWith front)) old mid new (a.any_moment front low all) (b.any_moment front low (a.crash front low all));
    moments = goes_two (KeepsBelow place) seen old mid new a.moments b.moments;
  }

  -- and then further on
  pub behind_on : (place at : ℕ) (old mid new : Clocked D B) → place ≤ at → WritesBehind seen may_leave note place old mid → WritesBehind seen may_leave note at mid new → WritesBehind seen may_leave note place old new
  behind_on place at old mid new less a b = behind_two place old mid new a (behind_less place at mid new less b)

  -- one call, behind which no more may be left but for what a write made of it
  behind_call : (place : ℕ) (old new : Clocked D B) → past_of new ≡ past_of old ++ (disk_of old, note) ∷ (disk_of new, note) ∷ [] → KeepsBelow place (seen (disk_of old)) (seen (disk_of new))
      → ((front : List ℕ) → length front ≤ place → AllBegin front (may_leave (disk_of old)) → AllBegin front (may_leave (disk_of new))) → WritesBehind seen may_leave note place old new
  behind_call place old new noted keeps crash = record {
    crash = crash;
    any_moment = λ front low all. one_call may_leave note (BeginsWith front) old new noted all (crash front low all);
    moments = goes_call (KeepsBelow place) seen note old new noted (keeps_not place (seen (disk_of old))) keeps;
  }

  pub behind_write : (place n : ℕ) (old new : Clocked D B) → past_of new ≡ past_of old ++ (disk_of old, note) ∷ (disk_of new, note) ∷ [] → Torn place n (seen (disk_of old)) (seen (disk_of new))
      → Follows (Torn place n) (may_leave (disk_of old)) (may_leave (disk_of new)) → WritesBehind seen may_leave note place old new
  behind_write place n old new noted torn follows =
      behind_call place old new noted (keeps_torn place n (seen (disk_of old)) (seen (disk_of new)) torn)
      λ front low all c left. let from = follows c left in torn_begins front place n from.0 c low (all from.0 from.1) from.2

  pub behind_sync : (place : ℕ) (old new : Clocked D B) → past_of new ≡ past_of old ++ (disk_of old, note) ∷ (disk_of new, note) ∷ [] → seen (disk_of new) ≡ seen (disk_of old)
      → ((c : List ℕ) → may_leave (disk_of new) c → may_leave (disk_of old) c) → WritesBehind seen may_leave note place old new
  behind_sync place old new noted same fewer =
      behind_call place old new noted (subst (λ (f : List ℕ). KeepsBelow place (seen (disk_of old)) f) (sym same) (keeps_not place (seen (disk_of old)))) λ front low all c left. all c (fewer c left)

-- a piece, and what comes right behind it
pub behind_next : {D B : Type 0} {seen : D → List ℕ} {may_leave : D → List ℕ → Type 0} {note : B} {place at : ℕ} {old mid new : Clocked D B} (n : ℕ) → at ≡ place + n
    → WritesBehind seen may_leave note place old mid → WritesBehind seen may_leave note at mid new → WritesBehind seen may_leave note place old new
behind_next {seen = seen} {may_leave = may_leave} {note = note} {place = place} {at = at} {old = old} {mid = mid} {new = new} n is a b = behind_on seen may_leave note place at old mid new (omega (arith, is)) a b

-- a call that went well, and then one more
pub counted_two : {S T : Type 0} (x : S) (r : Result T Error) (a b c : ℕ) (s t u : Tally) → IsCounted {T = S} (Ok x) a b s t → IsCounted r b c t u → IsCounted r a c s u
counted_two x (Ok y) a b c s t u first second = record {
  faults = second.faults ∙ first.faults;
  refused = record { caught = second.refused.caught ∙ first.refused.caught; refused = second.refused.refused ∙ first.refused.refused };
}
counted_two {T = T} x (Err e) a b c s t u first second = record {
  faults = subst (λ k. MoreFaults k c × (k ≤ c)) first.faults second.faults;
  refused = record {
    caught = second.refused.caught ∙ first.refused.caught;
    refused = subst (λ k. MatchBool (finds_no_room {T = T} (Err e)) (MoreFaults k u.refused) (u.refused ≡ k)) first.refused.refused second.refused.refused;
  };
}

-- what is told of it is the same
pub counted_err : {S T : Type 0} (e : Error) (a b : ℕ) (s t : Tally) → IsCounted {T = S} (Err e) a b s t → IsCounted {T = T} (Err e) a b s t
counted_err e a b s t it = record { faults = it.faults; refused = record { caught = it.refused.caught; refused = it.refused.refused } }

-- the same of a call that went well, and then of what comes behind it
pub counted_then : {S T : Type 0} (r : Result S Error) (x : S) (result : Result T Error) (a b c : ℕ) (s t u : Tally) → r ≡ Ok x → IsCounted r a b s t → IsCounted result b c t u → IsCounted result a c s u
counted_then {S = S} r x result a b c s t u is first second = counted_two x result a b c s t u (subst (λ (r : Result S Error). IsCounted r a b s t) is first) second

-- the same, where what is meant is seen from what is told
pub then_counted : {S T : Type 0} {r : Result S Error} {x : S} {result : Result T Error} {a b c : ℕ} {s t u : Tally} → r ≡ Ok x → IsCounted r a b s t → IsCounted result b c t u → IsCounted result a c s u
then_counted {r = r} {x = x} {result = result} {a = a} {b = b} {c = c} {s = s} {t = t} {u = u} is first second = counted_then r x result a b c s t u is first second

-- whatever is handed out
pub counted_ok : {S T : Type 0} (x : S) (y : T) (a b : ℕ) (s t : Tally) → IsCounted {T = S} (Ok x) a b s t → IsCounted {T = T} (Ok y) a b s t
counted_ok x y a b s t it = record { faults = it.faults; refused = record { caught = it.refused.caught; refused = it.refused.refused } }

-- what a `?` returns is counted as the call that failed
pub counted_exit : {S T : Type 0} (r : Result S Error) (e : Error) (result : Result T Error) (a b : ℕ) (s t : Tally) → r ≡ Err e → IsErrAnd result (λ y. y ≡ e) → IsCounted r a b s t → IsCounted result a b s t
counted_exit r e (Ok x) a b s t was is it = absurd is
counted_exit {S = S} {T = T} r e (Err y) a b s t was is it =
    subst (λ (d : Error). IsCounted {T = T} (Err d) a b s t) (sym is) (counted_err {S = S} {T = T} e a b s t (subst (λ (r : Result S Error). IsCounted r a b s t) was it))

pub exit_counted : {S T : Type 0} {r : Result S Error} {e : Error} {result : Result T Error} {a b : ℕ} {s t : Tally} → r ≡ Err e → IsErrAnd result (λ y. y ≡ e) → IsCounted r a b s t → IsCounted result a b s t
exit_counted {r = r} {e = e} {result = result} {a = a} {b = b} {s = s} {t = t} was is it = counted_exit r e result a b s t was is it

pub counted_grows : {T : Type 0} (r : Result T Error) (a b : ℕ) (s t : Tally) → IsCounted r a b s t → a ≤ b
counted_grows (Ok x) a b s t it = omega (arith, it.faults)
counted_grows (Err e) a b s t it = it.faults.1

-- a call behind others fails
pub fails_behind : {T E : Type 0} (r : Result T E) (a b c : ℕ) → a ≤ b → CountsFault r b c → OnErr r (MoreFaults a c) × (a ≤ c)
fails_behind (Ok x) a b c less it = (tt, omega (arith, less, it))
fails_behind (Err e) a b c less it = (omega (arith, less, it.0), omega (arith, less, it.1))

pub ok_usable : {T E : Type 0} (r : Result T E) (b : Bool) → b ≡ is_ok r → OnOk r (IsTrue b)
ok_usable (Ok x) b is = is
ok_usable (Err e) b is = tt

pub begins_as : (a b c : List ℕ) → a ≡ b → BeginsWith a c → BeginsWith b c
begins_as a b c is it = (it.0, it.1 ∙ ap (λ (l : List ℕ). l ++ it.0) is)

pub begins_in : (front a b : List ℕ) → a ≡ b → BeginsWith front a → BeginsWith front b
begins_in front a b is it = (it.0, sym is ∙ it.1)
