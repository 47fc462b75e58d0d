-- What is kept, one piece after another.
use Rattle.std.proofs.Common.{◌≡◌, ℕ, ◌+◌, ◌<◌, ◌≤◌, Bool, true, false, Some, ◌⊎◌, ⊎_elim, List, [], ◌∷◌, ◌++◌, length, take, get_or, All, sym, refl, ap, ◌∙◌, arith, length-append}
use borrow.Author.Count.{below_more}
use Rattle.std.specs.Prelude.{IsTrue, count_by}
use Rattle.std.proofs.lemmas.Bool.{false≢true, false_from_ne_true}
use Rattle.std.proofs.lemmas.List.{take_more, take_all}
use Rattle.std.proofs.lemmas.List.Elements.{All-nil, All-push, All-pop}
use Rattle.std.proofs.lemmas.List.Sums.{count_by_more_yes, count_by_more_no}
use Rattle.dav_path_core.specs.declared.davpath.ParseError.{ParseError}
use Rattle.percent_encoding.specs.Percent.{percent_decode}
use Rattle.std.specs.List.{join_with_byte}
use Rattle.std.proofs.lemmas.List.{get_or-map, length-map, append-nil}
use Rattle.dav_path_core.specs.Segments.{slash_pieces}
use Rattle.std.proofs.lemmas.Bool.{lt-ltb}
use Rattle.dav_path_core.specs.PathReading.{path_of, decoded_pieces, is_idle, is_up, is_ordinary, IsForeign, Rewrites}
use Rattle.dav_path_core.specs.PathReading.Rewrites.{none}
use Rattle.dav_path_core.specs.Fault.{IsFaultAt, NoFaultBelow, FirstFault, LeavesRoot, nth_piece}
use Rattle.dav_path_core.specs.Fault.IsFaultAt.{foreign as foreign_at, above as above_at}
use Rattle.dav_path_core.specs.Private.Keeping.{behind_slashes, TakesPiece, RefusesPiece, ComesDown}
use Rattle.dav_path_core.specs.Private.Keeping.TakesPiece.{idle, up, ordinary}
use Rattle.dav_path_core.specs.Private.Keeping.RefusesPiece.{foreign, above}
use Rattle.dav_path_core.proofs.paths.Rewriting.{Rewrites-push, Rewrites-idle, Rewrites-up, not_idle, not_up, idle_not_up}

-- after the first n pieces
pub record Along (slash_pieces kept : List (List ℕ)) (n : ℕ) : Type 0 where
  pub comes : ComesDown (take n slash_pieces) kept
  pub counts : length kept + count_by is_up (take n slash_pieces) ≡ count_by is_ordinary (take n slash_pieces)
  pub earlier : NoFaultBelow slash_pieces n

pub Along-start : (slash_pieces : List (List ℕ)) → Along slash_pieces [] 0
Along-start slash_pieces = record {
  comes = record { clean = All-nil _; rewrites = none []; ordinary = All-nil _ };
  counts = refl;
  earlier = λ j lt. absurd (omega arith);
}

no_fault_at : (slash_pieces : List (List ℕ)) (n : ℕ) → ¬ IsForeign (nth_piece slash_pieces n) → ¬ LeavesRoot slash_pieces n → (e : ParseError) → ¬ IsFaultAt slash_pieces n e
no_fault_at slash_pieces n clean stays _ (foreign_at h) = clean h
no_fault_at slash_pieces n clean stays _ (above_at h) = stays h

ordinary_is : (piece : List ℕ) → IsTrue (is_ordinary piece) → (is_idle piece ≡ false) × (is_up piece ≡ false)
ordinary_is piece h =
    (false_from_ne_true _ (λ e. not_idle (is_idle piece) (is_up piece) e h), false_from_ne_true _ (λ e. not_up (is_idle piece) (is_up piece) e h))

up_not_ordinary : (piece : List ℕ) → IsTrue (is_up piece) → is_ordinary piece ≡ false
up_not_ordinary piece h = false_from_ne_true _ (λ e. not_up (is_idle piece) (is_up piece) h e)

idle_not_ordinary : (piece : List ℕ) → IsTrue (is_idle piece) → is_ordinary piece ≡ false
idle_not_ordinary piece h = false_from_ne_true _ (λ e. not_idle (is_idle piece) (is_up piece) h e)

-- one piece more, from its three facts
more : (slash_pieces old new : List (List ℕ)) (n : ℕ) → Along slash_pieces old n → n < length slash_pieces → ¬ IsForeign (nth_piece slash_pieces n)
    → Rewrites (take n slash_pieces ++ nth_piece slash_pieces n ∷ []) new → All (λ piece. IsTrue (is_ordinary piece)) new
    → length new + count_by is_up (take (n + 1) slash_pieces) ≡ count_by is_ordinary (take (n + 1) slash_pieces)
    → ¬ LeavesRoot slash_pieces n → Along slash_pieces new (n + 1)
more slash_pieces old new n a within clean rewrites all counts stays =
    let e = take_more slash_pieces n [] within in
    record {
      comes = record {
        clean = rw e (All-push (λ x. ¬ IsForeign x) (take n slash_pieces) (nth_piece slash_pieces n) a.comes.clean clean);
        rewrites = rw e rewrites;
        ordinary = all;
      };
      counts = counts;
      earlier = below_more (λ j. (f : ParseError) → ¬ IsFaultAt slash_pieces j f) n a.earlier (no_fault_at slash_pieces n clean stays);
    }

pub Along-more : (slash_pieces old new : List (List ℕ)) (n : ℕ) → Along slash_pieces old n → n < length slash_pieces → ¬ IsForeign (nth_piece slash_pieces n) → TakesPiece old (nth_piece slash_pieces n) new → Along slash_pieces new (n + 1)
Along-more slash_pieces old new n a within clean (idle h e) =
    more slash_pieces old new n a within clean
    (rw e (Rewrites-idle _ old (nth_piece slash_pieces n) a.comes.rewrites h))
    (rw e a.comes.ordinary)
    (let u = count_by_more_no is_up slash_pieces n [] within (idle_not_up (nth_piece slash_pieces n) h) in
    let o = count_by_more_no is_ordinary slash_pieces n [] within (idle_not_ordinary (nth_piece slash_pieces n) h) in
    omega (arith, a.counts, u, o, ap length e))
    (λ l. false≢true (sym (idle_not_up (nth_piece slash_pieces n) h) ∙ l.0))
Along-more slash_pieces old new n a within clean (up last h e) =
    let parts = All-pop (λ piece. IsTrue (is_ordinary piece)) old new (Some last) e a.comes.ordinary in
    let u = count_by_more_yes is_up slash_pieces n [] within h in
    let o = count_by_more_no is_ordinary slash_pieces n [] within (up_not_ordinary (nth_piece slash_pieces n) h) in
    let long = ap length e ∙ length-append new (last ∷ []) in
    more slash_pieces old new n a within clean
    (Rewrites-up (take n slash_pieces) new last (nth_piece slash_pieces n) (rw e at a.comes.rewrites) parts.1 h)
    parts.0
    (omega (arith, a.counts, u, o, long))
    (λ l. absurd (omega (arith, a.counts, l.1, long)))
Along-more slash_pieces old new n a within clean (ordinary h e) =
    more slash_pieces old new n a within clean
    (rw e (Rewrites-push _ old (nth_piece slash_pieces n) a.comes.rewrites))
    (rw e (All-push (λ x. IsTrue (is_ordinary x)) old (nth_piece slash_pieces n) a.comes.ordinary h))
    (let u = count_by_more_no is_up slash_pieces n [] within (ordinary_is (nth_piece slash_pieces n) h).1 in
    let o = count_by_more_yes is_ordinary slash_pieces n [] within h in
    omega (arith, a.counts, u, o, ap length e, length-append old (nth_piece slash_pieces n ∷ [])))
    (λ l. false≢true (sym (ordinary_is (nth_piece slash_pieces n) h).1 ∙ l.0))

pub Along-fault : (slash_pieces old : List (List ℕ)) (n : ℕ) (e : ParseError) → Along slash_pieces old n → n < length slash_pieces → RefusesPiece old (nth_piece slash_pieces n) e → FirstFault slash_pieces e
Along-fault slash_pieces old n _ a within (foreign h) = record { at = n; within = within; earlier = a.earlier; fault = foreign_at h }
Along-fault slash_pieces old n _ a within (above h e) = record { at = n; within = within; earlier = a.earlier; fault = above_at (h, omega (arith, a.counts, ap length e)) }

pub Along-end : (slash_pieces kept : List (List ℕ)) (n : ℕ) → Along slash_pieces kept n → length slash_pieces ≤ n → ComesDown slash_pieces kept
Along-end slash_pieces kept n a h = rw (take_all n slash_pieces h) at a.comes

-- ---- over the raw pieces, each of them decoded

at_turn : (raw_text piece decoded : List ℕ) (n : ℕ) → (n < length (slash_pieces raw_text)) × (piece ≡ get_or (slash_pieces raw_text) n piece) → decoded ≡ percent_decode piece → decoded ≡ nth_piece (decoded_pieces raw_text) n
at_turn raw_text piece decoded n h e =
    e ∙ ap percent_decode h.1 ∙ sym (get_or-map percent_decode (slash_pieces raw_text) n piece [] h.0)

long : (raw_text : List ℕ) → length (decoded_pieces raw_text) ≡ length (slash_pieces raw_text)
long raw_text = simp length-map

pub Along-turn : (raw_text piece decoded : List ℕ) (old new : List (List ℕ)) (n : ℕ) → Along (decoded_pieces raw_text) old n → (n < length (slash_pieces raw_text)) × (piece ≡ get_or (slash_pieces raw_text) n piece) → decoded ≡ percent_decode piece → ¬ IsForeign decoded → TakesPiece old decoded new → Along (decoded_pieces raw_text) new (n + 1)
Along-turn raw_text piece decoded old new n a h e clean takes =
    let here = at_turn raw_text piece decoded n h e in
    Along-more (decoded_pieces raw_text) old new n a (omega (arith, h.0, long raw_text)) (rw here at clean) (rw here at takes)

pub Along-refused : (raw_text piece decoded : List ℕ) (old : List (List ℕ)) (n : ℕ) (e : ParseError) → Along (decoded_pieces raw_text) old n → (n < length (slash_pieces raw_text)) × (piece ≡ get_or (slash_pieces raw_text) n piece) → decoded ≡ percent_decode piece → RefusesPiece old decoded e → FirstFault (decoded_pieces raw_text) e
Along-refused raw_text piece decoded old n f a h e refuses =
    let here = at_turn raw_text piece decoded n h e in
    Along-fault (decoded_pieces raw_text) old n f a (omega (arith, h.0, long raw_text)) (rw here at refuses)

pub Along-done : (raw_text : List ℕ) (kept : List (List ℕ)) (n : ℕ) → Along (decoded_pieces raw_text) kept n → n ≡ length (slash_pieces raw_text) → ComesDown (decoded_pieces raw_text) kept
Along-done raw_text kept n a h = Along-end (decoded_pieces raw_text) kept n a (omega (arith, long raw_text))

-- ---- the path of what is kept

pub joined_is : (kept : List (List ℕ)) → 0 < length kept → 47 ∷ join_with_byte 47 kept ≡ behind_slashes kept
joined_is [] h = absurd (omega arith)
joined_is (x ∷ []) h = ap (λ l. 47 ∷ l) (sym (append-nil x))
joined_is (x ∷ y ∷ kept) h = ap (λ l. 47 ∷ (x ++ l)) (joined_is (y ∷ kept) (omega arith))

-- a slash more, where the path is to end in one or is empty; and none
pub path_with_slash : (kept : List (List ℕ)) (slash : Bool) → (slash ≡ true) ⊎ (length kept ≡ 0) → behind_slashes kept ++ 47 ∷ [] ≡ path_of kept slash
path_with_slash [] true h = refl
path_with_slash [] false h = refl
path_with_slash (x ∷ kept) true h =
    rw (lt-ltb 0 (length (x ∷ kept)) (omega arith)) (ap (λ l. l ++ 47 ∷ []) (sym (joined_is (x ∷ kept) (omega arith))))
path_with_slash (x ∷ kept) false h = ⊎_elim (λ e. cc) (λ e. absurd (omega (arith, e))) h

pub path_with_none : (kept : List (List ℕ)) (slash : Bool) → slash ≡ false → 0 < length kept → behind_slashes kept ≡ path_of kept slash
path_with_none kept true e h = cc
path_with_none kept false e h = sym (joined_is kept h) ∙ sym (append-nil (47 ∷ join_with_byte 47 kept))
