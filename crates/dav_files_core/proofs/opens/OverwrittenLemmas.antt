-- What a write into a list that was made long enough leaves.
use Rattle.std.proofs.Common.{◌≡◌, inl, inr, ℕ, ◌+◌, ◌-◌, ◌≤◌, List, [], ◌++◌, length, take, drop, replicate, sym, ap, ◌∙◌, arith, append_assoc, append-nil, length-append, length-take, length-drop}
use Rattle.std.specs.Prelude.{max, min}
use Rattle.std.proofs.lemmas.Bool.{cases_lt}
use Rattle.std.proofs.lemmas.List.{take_all, drop_all, take-append-le, take-replicate, drop-drop, length-replicate}
use Rattle.std.proofs.Math.Seq.{take-append-add}
use borrow.Rule.Slice.PartMut.{put_mid}
use Rattle.dav_files_core.specs.OpenFiles.{overwritten_at}

none_left : (n : ℕ) → n ≡ 0 → replicate {A = ℕ} n 0 ≡ []
none_left n e = ap (λ n. replicate {A = ℕ} n 0) e

module _ (bytes new : List ℕ) (at : ℕ) where
  abbrev end : ℕ
  end = at + length new

  -- the bytes, filled up with zeros to a length
  abbrev pub filled : ℕ → List ℕ
  filled n = take n bytes ++ replicate (n - length bytes) 0

  filled_is : (n : ℕ) → length bytes ≤ n → filled n ≡ bytes ++ replicate (n - length bytes) 0
  filled_is n long = ap (λ l. l ++ replicate (n - length bytes) 0) (take_all n bytes long)

  length-filled : (n : ℕ) → length bytes ≤ n → length (filled n) ≡ n
  length-filled n long =
      ap length (filled_is n long) ∙ length-append bytes (replicate (n - length bytes) 0) ∙ ap (λ k. length bytes + k) (length-replicate (n - length bytes) 0) ∙ whole (length bytes) n long
    where
      whole : (k n : ℕ) → k ≤ n → k + (n - k) ≡ n
      whole k n h = omega arith

  front : (n : ℕ) → length bytes ≤ n → end ≤ n → take at (filled n) ≡ take at bytes ++ replicate (at - length bytes) 0
  front n long over = elim (cases_lt (length bytes) at) [
    | inl behind ↦
        let split : at ≡ length bytes + (at - length bytes) = omega arith in
        ap (take at) (filled_is n long) ∙ ap (λ k. take k (bytes ++ replicate (n - length bytes) 0)) split
        ∙ take-append-add bytes (replicate (n - length bytes) 0) (at - length bytes)
        ∙ ap (λ l. bytes ++ l) (take-replicate (at - length bytes) (n - length bytes) 0 (omega arith))
        ∙ ap (λ l. l ++ replicate (at - length bytes) 0) (sym (take_all at bytes (omega arith)))
    | inr within ↦
        let none : replicate (at - length bytes) 0 ≡ [] = none_left (at - length bytes) (omega arith) in
        ap (take at) (filled_is n long) ∙ take-append-le at bytes (replicate (n - length bytes) 0) within
        ∙ sym (ap (λ l. take at bytes ++ l) none ∙ append-nil (take at bytes))
  ]

  back : (n : ℕ) → n ≡ max (length bytes) end → drop end (filled n) ≡ drop end bytes
  back n is = elim (cases_lt (length bytes) end) [
    | inl short ↦
        let long : length (filled n) ≡ n = length-filled n (omega arith) in
        drop_all end (filled n) (omega arith) ∙ sym (drop_all end bytes (omega arith))
    | inr within ↦
        ap (drop end) (filled_is n (omega arith) ∙ ap (λ l. bytes ++ l) (none_left (n - length bytes) (omega arith)) ∙ append-nil bytes)
  ]

  pub written_over : (n k : ℕ) → n ≡ max (length bytes) end → k ≡ length new → put_mid at k (filled n) new ≡ overwritten_at bytes at new
  written_over n k is long =
      let rest : drop k (drop at (filled n)) ≡ drop end bytes = drop-drop k at (filled n) ∙ ap (λ k. drop (at + k) (filled n)) long ∙ back n is in
      (λ i. front n (omega arith) (omega arith) i ++ (new ++ rest i)) ∙ sym (append_assoc (take at bytes ++ replicate (at - length bytes) 0) new (drop end bytes))

  -- with the lengths as the code counts them, and what lies behind the bytes in their memory
  module _ (xs dst : List ℕ) (n stop : ℕ) (stop_is : stop ≡ end) (n_is : n ≡ max (length bytes) stop) (xs_is : xs ≡ filled n)
      (dst_is : dst ≡ take (length (take (stop - at) (drop at xs))) new) where
    abbrev size : ℕ
    size = stop - at

    long : length xs ≡ n
    long = ap length xs_is ∙ length-filled n (omega arith)

    room : (k : ℕ) → k ≡ n - at → min size k ≡ length new
    room k is = omega arith

    all : dst ≡ new
    all =
        let slice : length (take size (drop at xs)) ≡ length new = length-take size (drop at xs) ∙ room (length (drop at xs)) (length-drop at xs ∙ ap (λ k. k - at) long) in
        dst_is ∙ ap (λ k. take k new) slice ∙ take_all (length new) new (omega arith)

    stored : put_mid at size xs dst ≡ overwritten_at bytes at new
    stored = (λ i. put_mid at size (xs_is i) (all i)) ∙ written_over n size (n_is ∙ ap (λ k. max (length bytes) k) stop_is) (omega arith)

    in_all : (a b c : ℕ) → a ≡ at → b ≡ length new → c ≡ n - at - size → a + (b + c) ≡ n
    in_all a b c is_a is_b is_c = omega arith

    front_length : length (take at xs) ≡ at
    front_length = length-take at xs ∙ ap (λ k. min at k) long ∙ (omega arith)

    length-stored : length (put_mid at size xs dst) ≡ n
    length-stored =
        length-append (take at xs) (dst ++ drop size (drop at xs)) ∙ ap (λ k. length (take at xs) + k) (length-append dst (drop size (drop at xs)))
        ∙ in_all (length (take at xs)) (length dst) (length (drop size (drop at xs))) front_length (ap length all)
        (length-drop size (drop at xs) ∙ ap (λ k. k - size) (length-drop at xs ∙ ap (λ k. k - at) long))

    pub stored_in : (ys zs : List ℕ) → ys ≡ xs → take (length ys) (put_mid at size xs dst ++ zs) ≡ overwritten_at bytes at new
    stored_in ys zs is =
        ap (λ k. take k (put_mid at size xs dst ++ zs)) (ap length is ∙ long ∙ sym length-stored)
        ∙ take-append-le (length (put_mid at size xs dst)) (put_mid at size xs dst) zs (omega arith)
        ∙ take_all (length (put_mid at size xs dst)) (put_mid at size xs dst) (omega arith) ∙ stored
