-- The segments, taken off from the front.
use Rattle.std.proofs.Common.{◌≡◌, ℕ, ◌+◌, ◌<◌, ◌≤◌, Bool, true, false, not, cond, ltb, Option, Some, None, List, [], ◌∷◌, length, take, drop, get_or, length-drop, length-take, take_all, add-zero, filter, sym, refl, ap, ◌∙◌, ⊎_elim, add_comm, add-one, arith}
use Rattle.std.specs.Option.{unwrap_or}
use Rattle.std.specs.List.{position_or_len, onto_first, sum_by}
use Rattle.std.proofs.lemmas.List.Sums.{sum_by-cons}
use Rattle.std.proofs.lemmas.Bool.{cond_both}
use Rattle.std.proofs.lemmas.Bool.{cases_Bool, cases_lt, eqb-true, not-true, false≢true}
use Rattle.std.proofs.lemmas.Bool.Decides.{nat_tests}
use Rattle.std.proofs.lemmas.List.{drop_more, drop_all, get_or-drop}
use Rattle.std.proofs.lemmas.List.Elements.{All-from_get_or}
use Rattle.std.proofs.lemmas.List.Splits.{slice_split_none, slice_split_first}
use Rattle.std.proofs.lemmas.List.Sums.{prefix_len-le-length, fails_before_first, passes_at_first}
use Rattle.dav_path_core.specs.Segments.{segments, is_slash, is_nonempty, slash_pieces}

pub position_or : (test : ℕ → Bool) (xs : List ℕ) (r : Option ℕ) (n : ℕ) → r ≡ cond (ltb (position_or_len test xs) (length xs)) (Some (position_or_len test xs)) None → n ≡ unwrap_or r (length xs) → n ≡ position_or_len test xs
position_or test xs r n e u =
    let within = prefix_len-le-length (λ x. not (test x)) xs in
    ⊎_elim
    (λ (t : ltb (position_or_len test xs) (length xs) ≡ true). rw (u, e, t) refl)
    (λ (t : ltb (position_or_len test xs) (length xs) ≡ false). rw (u, e, t) (grind (arith, nat_tests)))
    (cases_Bool (ltb (position_or_len test xs) (length xs)))

pub segments-slash : (b : ℕ) (bs : List ℕ) → is_slash b ≡ true → segments (b ∷ bs) ≡ segments bs
unfolding segments
segments-slash b bs h = rw (eqb-true b 47 h) refl

-- how many slashes the bytes begin with
abbrev pub slashes : List ℕ → ℕ
slashes bs = position_or_len (λ b. not (is_slash b)) bs

skip_by : (t : Bool) (b : ℕ) (bs : List ℕ) → is_slash b ≡ t → segments (drop (slashes bs) bs) ≡ segments bs → segments (drop (cond (not (not t)) (1 + slashes bs) 0) (b ∷ bs)) ≡ segments (b ∷ bs)
skip_by true b bs h more = rw (add_comm 1 (slashes bs), add-one) (more ∙ sym (segments-slash b bs h))
skip_by false b bs h more = refl

pub segments-skip : (bs : List ℕ) → segments (drop (slashes bs) bs) ≡ segments bs
segments-skip [] = refl
segments-skip (b ∷ bs) = skip_by (is_slash b) b bs refl (segments-skip bs)

-- what comes behind the slashes begins with none
pub no_slash_at : (bs : List ℕ) → 0 < length (drop (slashes bs) bs) → is_slash (get_or (drop (slashes bs) bs) 0 0) ≡ false
no_slash_at bs h =
    not-true _ (rw (get_or-drop (slashes bs) bs 0 0, add-zero) (passes_at_first (λ b. not (is_slash b)) bs 0 (omega (arith, length-drop (slashes bs) bs))))

nonempty : (piece : List ℕ) → 0 < length piece → is_nonempty piece ≡ true
nonempty piece h = grind (arith, nat_tests)

segments_cons : (bs piece rest : List ℕ) (parts : List (List ℕ)) → slash_pieces bs ≡ piece ∷ parts → 0 < length piece → filter is_nonempty parts ≡ segments rest → segments bs ≡ piece ∷ segments rest
unfolding segments
segments_cons bs piece rest parts e h f = rw (e, nonempty piece h, f) refl

segments_is : (bs : List ℕ) → filter is_nonempty (slash_pieces bs) ≡ segments bs
unfolding segments
segments_is bs = refl

segments-nil : segments [] ≡ []
unfolding segments
segments-nil = refl

pub segments-take : (bs : List ℕ) → 0 < position_or_len is_slash bs → segments bs ≡ take (position_or_len is_slash bs) bs ∷ segments (drop (position_or_len is_slash bs) bs)
segments-take bs h =
    let n = position_or_len is_slash bs in
    let within : n ≤ length bs = prefix_len-le-length (λ b. not (is_slash b)) bs in
    let long : 0 < length (take n bs) = omega (arith, length-take n bs) in
    ⊎_elim
    (λ (lt : n < length bs). segments_cons bs (take n bs) (drop n bs) (slash_pieces (drop (n + 1) bs)) (slice_split_first is_slash bs 0 lt) long
    (segments_is (drop (n + 1) bs) ∙ sym (segments-slash (get_or bs n 0) (drop (n + 1) bs) (passes_at_first is_slash bs 0 lt)) ∙ ap segments (sym (drop_more bs n 0 lt))))
    (λ (ge : length bs ≤ n).
    segments_cons bs (take n bs) (drop n bs) []
    (slice_split_none is_slash bs (All-from_get_or (λ b. is_slash b ≡ false) bs 0 (λ k lt. fails_before_first is_slash bs k 0 (omega arith))) ∙ ap (λ l. l ∷ []) (sym (take_all n bs ge)))
    long (sym segments-nil ∙ ap segments (sym (drop_all n bs ge))))
    (cases_lt n (length bs))

short_from : (s : List ℕ) (n : ℕ) → n ≡ 0 → (n < length s → is_slash (get_or s n 0) ≡ true) → (0 < length s → is_slash (get_or s 0 0) ≡ false) → length s ≤ 0
short_from s n e stops starts =
    ⊎_elim
    (λ (lt : 0 < length s). absurd (false≢true (sym (starts lt) ∙ ap (λ k. is_slash (get_or s k 0)) (sym e) ∙ stops (omega arith))))
    (λ (ge : length s ≤ 0). ge)
    (cases_lt 0 (length s))

-- one call of `next`
pub next_none : (bs : List ℕ) → let s = drop (slashes bs) bs in length (take (position_or_len is_slash s) s) ≡ 0 → (segments bs ≡ []) × (segments (drop (position_or_len is_slash s) s) ≡ [])
next_none bs h =
    let s = drop (slashes bs) bs in
    let n = position_or_len is_slash s in
    let within : n ≤ length s = prefix_len-le-length (λ b. not (is_slash b)) s in
    let none : n ≡ 0 = omega (arith, length-take n s) in
    let short : length s ≤ 0 = short_from s n none (passes_at_first is_slash s 0) (no_slash_at bs) in
    (sym (segments-skip bs) ∙ ap segments (drop_all 0 s short) ∙ segments-nil, ap segments (drop_all n s (omega arith)) ∙ segments-nil)

pub next_some : (bs : List ℕ) → let s = drop (slashes bs) bs in 0 < length (take (position_or_len is_slash s) s) → segments bs ≡ take (position_or_len is_slash s) s ∷ segments (drop (position_or_len is_slash s) s)
next_some bs h =
    let s = drop (slashes bs) bs in
    sym (segments-skip bs) ∙ segments-take s (omega (arith, length-take (position_or_len is_slash s) s))

-- the same, in the words of the code
pub none_left : (bs s first rest : List ℕ) (n : ℕ) → s ≡ drop (slashes bs) bs → n ≡ position_or_len is_slash s → first ≡ take n s → rest ≡ drop n s → length first ≡ 0 → (segments bs ≡ []) × (segments rest ≡ [])
none_left bs s first rest n hs hn hf hr =
    rw (hf, hr, hn, hs) (next_none bs)

pub first_left : (bs s first rest : List ℕ) (n : ℕ) → s ≡ drop (slashes bs) bs → n ≡ position_or_len is_slash s → first ≡ take n s → rest ≡ drop n s → 0 < length first → segments bs ≡ first ∷ segments rest
first_left bs s first rest n hs hn hf hr =
    rw (hf, hr, hn, hs) (next_some bs)

pub fewer_left : (bs first rest : List ℕ) → segments bs ≡ first ∷ segments rest → length (segments rest) < length (segments bs)
fewer_left bs first rest e = rw e (omega arith)

-- ---- there are no more segments than bytes

sum_onto : (b : ℕ) (parts : List (List ℕ)) → sum_by length (onto_first b parts) ≡ 1 + sum_by length parts
sum_onto b [] = refl
sum_onto b (part ∷ parts) = omega (arith, sum_by-cons length (b ∷ part) parts, sum_by-cons length part parts)

sum_pieces : (bs : List ℕ) → sum_by length (slash_pieces bs) ≤ length bs
sum_pieces [] = omega arith
sum_pieces (b ∷ bs) =
    cond_both (is_slash b) ([] ∷ slash_pieces bs) (onto_first b (slash_pieces bs)) (λ l. sum_by length l ≤ length (b ∷ bs))
    (λ e. omega (arith, sum_pieces bs, sum_by-cons length [] (slash_pieces bs)))
    (λ e. omega (arith, sum_pieces bs, sum_onto b (slash_pieces bs)))

from_nonempty : (part : List ℕ) → is_nonempty part ≡ true → 0 < length part
from_nonempty part h = grind (arith, nat_tests)

few : (parts : List (List ℕ)) → length (filter is_nonempty parts) ≤ sum_by length parts
few [] = omega arith
few (part ∷ parts) =
    cond_both (is_nonempty part) (part ∷ filter is_nonempty parts) (filter is_nonempty parts) (λ l. length l ≤ sum_by length (part ∷ parts))
    (λ e. omega (arith, few parts, sum_by-cons length part parts, from_nonempty part e))
    (λ e. omega (arith, few parts, sum_by-cons length part parts))

pub length-segments : (bs : List ℕ) → length (segments bs) ≤ length bs
unfolding segments
length-segments bs = omega (arith, few (slash_pieces bs), sum_pieces bs)
