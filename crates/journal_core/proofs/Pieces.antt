-- Bytes of a file that are read piece by piece.
use Rattle.std.proofs.Common.{◌≡◌, ℕ, ◌+◌, ◌-◌, ◌≤◌, List, ◌++◌, length, take, drop, sym, ◌∙◌, ap, arith}
use Rattle.sqlite_disk.specs.Disk.{Holds}
use Rattle.std.proofs.lemmas.List.{take-append-drop, drop-take, drop-drop, take-take, take_all, length-drop, length-take-le, ext_get_or, get_or-drop, get_or-take}

-- what stands at two places, one behind the other
pub take_more : (n m : ℕ) (l : List ℕ) → take n l ++ take m (drop n l) ≡ take (n + m) l
take_more n m l =
    ap (λ (x : List ℕ). take n l ++ x) (sym (drop-take n m l)) ∙ ap (λ (x : List ℕ). x ++ drop n (take (n + m) l)) (sym (take-take n (n + m) l (omega arith))) ∙ take-append-drop n (take (n + m) l)

-- one piece more
pub more_read : (file : List ℕ) (at : ℕ) (old new : List ℕ) → old ≡ take (length old) (drop at file) → length old ≤ length new
    → new ≡ old ++ take (length new - length old) (drop (at + length old) file) → new ≡ take (length new) (drop at file)
more_read file at old new was longer is =
    let n = length old in
    let m = length new - length old in
    is ∙ ap (λ (l : List ℕ). l ++ take m (drop (at + n) file)) was ∙ ap (λ (l : List ℕ). take n (drop at file) ++ take m l) (sym (drop-drop n at file))
    ∙ take_more n m (drop at file) ∙ ap (λ k. take k (drop at file)) (omega (arith, longer))

-- a slice from a place on is all that stands there
pub slice_behind : (at : ℕ) (l : List ℕ) → take (length l - at) (drop at l) ≡ drop at l
slice_behind at l = take_all (length l - at) (drop at l) (omega (arith, length-drop at l))

-- the bytes that a file has at a place
pub holds_take : (file : List ℕ) (at : ℕ) (bytes : List ℕ) → Holds file at bytes → bytes ≡ take (length bytes) (drop at file)
holds_take file at bytes holds =
    let there = length-drop at file in
    let long : length (take (length bytes) (drop at file)) ≡ length bytes = length-take-le (length bytes) (drop at file) (omega (arith, holds.within, there)) in
    ext_get_or 0 bytes (take (length bytes) (drop at file)) (sym long) λ i low.
    sym (holds.each i low) ∙ sym (get_or-drop at file i 0) ∙ sym (get_or-take (length bytes) (drop at file) i 0 low)
