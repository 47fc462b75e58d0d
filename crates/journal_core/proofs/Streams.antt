-- What a reader gives of a file, piece by piece.
use Rattle.std.proofs.Common.{◌≡◌, ℕ, ◌+◌, ◌≤◌, List, ◌++◌, Option, None, Some, Result, Ok, Err, length, take, drop, refl, sym, ◌∙◌, ap, arith, length-append}
use Rattle.std.proofs.Math.Seq.{take-append-add}
use Rattle.std.proofs.lemmas.List.{take_at, take-append-le, drop_at, drop-drop, length-drop, length-take-le}
use Rattle.std.specs.Prelude.{IfOk}
use Rattle.std.specs.Io.{ReadsAtMost}
use Rattle.std.specs.declared.io.Error.{Error}
use Rattle.std.specs.Io.KnownBytes.{Consumes, ReadConsumes}

-- the bytes that a file had at a place, and it stands behind them
pub gives_more : (known known' : Option (List ℕ)) (file bytes : List ℕ) (at : ℕ) → known ≡ Some (drop at file) → at ≤ length file → Consumes known known' bytes
    → (known' ≡ Some (drop (at + length bytes) file)) × (at + length bytes ≤ length file) × (bytes ≡ take (length bytes) (drop at file))
gives_more None known' file bytes at is within it = absurd (cc)
gives_more (Some xs) None file bytes at is within it = absurd it
gives_more (Some xs) (Some ys) file bytes at is within it =
    let xs_are : xs ≡ drop at file = cc in
    let there : drop at file ≡ bytes ++ ys = sym xs_are ∙ it in (
      ap Some (sym (drop_at bytes ys (length bytes) refl) ∙ ap (λ (l : List ℕ). drop (length bytes) l) (sym there) ∙ drop-drop (length bytes) at file),
      omega (arith, within, ap length there, length-append bytes ys, length-drop at file),
      sym (ap (λ (l : List ℕ). take (length bytes) l) there ∙ take_at bytes ys (length bytes) refl),
    )

-- a read behind the bytes that are there, and what stands behind the room for it
pub read_behind : (r : Result ℕ Error) (known known' : Option (List ℕ)) (count : ℕ) (old new tail : List ℕ) → count ≤ length old → ReadsAtMost r new → ReadConsumes known known' r new
    → IfOk r (λ n. (file : List ℕ) (at : ℕ) → (known ≡ Some (drop at file)) × (at ≤ length file)
    → ((known' ≡ Some (drop (at + n) file)) × (at + n ≤ length file)) × (take (count + n) (take count old ++ (new ++ tail)) ≡ take count old ++ take n (drop at file)))
read_behind (Err e) known known' count old new tail within bound reads = tt
read_behind (Ok n) known known' count old new tail within bound reads = λ file at it.
    let front = take count old in
    let len : length (take n new) ≡ n = length-take-le n new bound.0 in
    let more = gives_more known known' file (take n new) at it.0 it.1 reads.0 in
    let bytes : take n new ≡ take n (drop at file) = more.2 ∙ ap (λ k. take k (drop at file)) len in (
      (more.0 ∙ ap (λ k. Some (drop (at + k) file)) len, omega (arith, more.1, len)),
      ap (λ k. take (k + n) (front ++ (new ++ tail))) (sym (length-take-le count old within)) ∙ take-append-add front (new ++ tail) n
          ∙ ap (λ (l : List ℕ). front ++ l) (take-append-le n new tail bound.0 ∙ bytes),
    )
