-- One more condition, and one more list.
use Rattle.std.proofs.Common.{◌≡◌, refl, sym, ap, ◌∙◌, ℕ, suc, ◌+◌, ◌-◌, ◌<◌, ◌≤◌, arith, Bool, true, false, cond, List, [], ◌∷◌, ◌++◌, length, Option, None, Some}
use Rattle.std.proofs.lemmas.List.{append_assoc, append-nil}
use Rattle.dav_headers_core.specs.IfBytes.{Condition}
use Rattle.dav_headers_core.specs.Private.IfReading.{Found, choose, is_empty, skip_blanks, after_byte, condition_at, conditions_at, group_at, groups_at}
use Rattle.dav_headers_core.specs.Optional.{◌>>=◌}
use Rattle.dav_headers_core.specs.HeaderGives.{Refuses}
use Rattle.dav_headers_core.specs.IfValues.{Located}
use Rattle.dav_headers_core.specs.Urls.{url_of}
use Rattle.dav_headers_core.specs.declared.davheaders.errors.HeaderError.{HeaderError}
use Rattle.dav_headers_core.specs.declared.davheaders.errors.HeaderError.TheVariants.{Invalid, OutOfMemory}

-- elements found, with those before them
abbrev pub with_front : {A : Type 0} → List A → Found (List A) → Found (List A)
with_front front found = found >>= λ x. Some (front ++ x.0, x.1)

-- how many turns are left, at a turn
left : (n k : ℕ) → k < n → n - k ≡ suc (n - (k + 1))
left n k lt = omega arith

-- ---- conditions

abbrev turn : ℕ → List ℕ → Option (List ℕ) → Found (List Condition)
turn n at closed =
    choose closed (λ rest. Some ([], rest)) (condition_at at >>= λ first. conditions_at n first.1 >>= λ others. Some (first.0 ∷ others.0, others.1))

abbrev more : ℕ → Option (Condition × List ℕ) → Found (List Condition)
more n found = found >>= λ first. conditions_at n first.1 >>= λ others. Some (first.0 ∷ others.0, others.1)

open_at : (n k : ℕ) (rest : List ℕ) (closed : Option (List ℕ)) → k < n → after_byte 41 (skip_blanks rest) ≡ closed → conditions_at (n - k) rest ≡ turn (n - (k + 1)) (skip_blanks rest) closed
open_at n k rest closed lt e = ap (λ (m : ℕ). conditions_at m rest) (left n k lt) ∙ ap (turn (n - (k + 1)) (skip_blanks rest)) e

pub closes : (front : List Condition) (n k : ℕ) (rest after : List ℕ) (whole : Found (List Condition)) → k < n → after_byte 41 (skip_blanks rest) ≡ Some after
    → with_front front (conditions_at (n - k) rest) ≡ whole → whole ≡ Some (front, after)
closes front n k rest after whole lt e inv =
    sym inv ∙ ap (with_front front) (open_at n k rest (Some after) lt e) ∙ ap (λ (f : List Condition). some (f, after)) (append-nil front)
  where
    some : List Condition × List ℕ → Found (List Condition)
    some x = Some x

with_more : (front : List Condition) (c : Condition) (found : Found (List Condition)) → with_front front (found >>= λ others. Some (c ∷ others.0, others.1)) ≡ with_front (front ++ c ∷ []) found
with_more front c (Some found) = ap (λ (f : List Condition). some (f, found.1)) (sym (append_assoc front (c ∷ []) found.0))
  where
    some : List Condition × List ℕ → Found (List Condition)
    some x = Some x
with_more front c None = refl

pub goes_on : (front : List Condition) (n k : ℕ) (rest : List ℕ) (c : Condition) (after : List ℕ) (whole : Found (List Condition)) → k < n → after_byte 41 (skip_blanks rest) ≡ None
    → condition_at (skip_blanks rest) ≡ Some (c, after) → with_front front (conditions_at (n - k) rest) ≡ whole
    → with_front (front ++ c ∷ []) (conditions_at (n - (k + 1)) after) ≡ whole
goes_on front n k rest c after whole lt e found inv =
    sym (with_more front c (conditions_at (n - (k + 1)) after))
    ∙ sym (ap (with_front front) (open_at n k rest None lt e ∙ ap (more (n - (k + 1))) found)) ∙ inv

pub fails : (front : List Condition) (n k : ℕ) (rest : List ℕ) (e : HeaderError) (whole : Found (List Condition)) → k < n → after_byte 41 (skip_blanks rest) ≡ None
    → Refuses e (condition_at (skip_blanks rest)) → with_front front (conditions_at (n - k) rest) ≡ whole → Refuses e whole
fails front n k rest OutOfMemory whole lt e found inv = tt
fails front n k rest Invalid whole lt e found inv =
    sym inv ∙ ap (with_front front) (open_at n k rest None lt e ∙ ap (more (n - (k + 1))) found)

-- ---- lists

abbrev pub lists_front : List Located → Option (List Located) → Option (List Located)
lists_front front found = found >>= λ x. Some (front ++ x)

abbrev list_turn : ℕ → List ℕ → Bool → Option (List Located)
list_turn n at over = cond over (Some []) (group_at url_of at >>= λ first. groups_at url_of n first.1 >>= λ others. Some (first.0 ∷ others))

abbrev more_lists : ℕ → Option (Located × List ℕ) → Option (List Located)
more_lists n found = found >>= λ first. groups_at url_of n first.1 >>= λ others. Some (first.0 ∷ others)

open_list : (n k : ℕ) (rest : List ℕ) (over : Bool) → k < n → is_empty (skip_blanks rest) ≡ over → groups_at url_of (n - k) rest ≡ list_turn (n - (k + 1)) (skip_blanks rest) over
open_list n k rest over lt e = ap (λ (m : ℕ). groups_at url_of m rest) (left n k lt) ∙ ap (list_turn (n - (k + 1)) (skip_blanks rest)) e

empty_test : (bytes : List ℕ) → length bytes ≡ 0 → is_empty bytes ≡ true
empty_test [] e = refl
empty_test (b ∷ bytes) e = absurd (omega arith)

full_test : (bytes : List ℕ) → (length bytes ≡ 0 → ⊥) → is_empty bytes ≡ false
full_test [] e = absurd (e refl)
full_test (b ∷ bytes) e = refl

pub lists_end : (front : List Located) (n k : ℕ) (rest : List ℕ) (whole : Option (List Located)) → k < n → length (skip_blanks rest) ≡ 0
    → lists_front front (groups_at url_of (n - k) rest) ≡ whole → whole ≡ Some front
lists_end front n k rest whole lt e inv =
    sym inv ∙ ap (lists_front front) (open_list n k rest true lt (empty_test (skip_blanks rest) e)) ∙ ap (λ (f : List Located). some f) (append-nil front)
  where
    some : List Located → Option (List Located)
    some x = Some x

lists_more : (front : List Located) (l : Located) (found : Option (List Located)) → lists_front front (found >>= λ others. Some (l ∷ others)) ≡ lists_front (front ++ l ∷ []) found
lists_more front l (Some found) = ap (λ (f : List Located). some f) (sym (append_assoc front (l ∷ []) found))
  where
    some : List Located → Option (List Located)
    some x = Some x
lists_more front l None = refl

pub lists_on : (front : List Located) (n k : ℕ) (rest : List ℕ) (l : Located) (after : List ℕ) (whole : Option (List Located)) → k < n → (length (skip_blanks rest) ≡ 0 → ⊥)
    → group_at url_of (skip_blanks rest) ≡ Some (l, after) → lists_front front (groups_at url_of (n - k) rest) ≡ whole
    → lists_front (front ++ l ∷ []) (groups_at url_of (n - (k + 1)) after) ≡ whole
lists_on front n k rest l after whole lt e found inv =
    sym (lists_more front l (groups_at url_of (n - (k + 1)) after))
    ∙ sym (ap (lists_front front) (open_list n k rest false lt (full_test (skip_blanks rest) e) ∙ ap (more_lists (n - (k + 1))) found)) ∙ inv

pub lists_fail : (front : List Located) (n k : ℕ) (rest : List ℕ) (e : HeaderError) (whole : Option (List Located)) → k < n → (length (skip_blanks rest) ≡ 0 → ⊥)
    → Refuses e (group_at url_of (skip_blanks rest)) → lists_front front (groups_at url_of (n - k) rest) ≡ whole → Refuses e whole
lists_fail front n k rest OutOfMemory whole lt e found inv = tt
lists_fail front n k rest Invalid whole lt e found inv =
    sym inv ∙ ap (lists_front front) (open_list n k rest false lt (full_test (skip_blanks rest) e) ∙ ap (more_lists (n - (k + 1))) found)
