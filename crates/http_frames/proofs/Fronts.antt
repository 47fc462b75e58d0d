-- Fronts of what is to be written.
use Rattle.std.proofs.Common.{◌≡◌, ℕ, Bool, true, false, Result, Ok, Err, OnOk, ◌+◌, ◌-◌, ◌≤◌, List, [], ◌∷◌, ◌++◌, length, take, drop, Option, Some, None, refl, sym, ap, ◌∙◌, subst, append-nil, append_assoc, take-add, take-append-drop, take_all, length-drop, arith, decimal, codes, inl, inr}
use Rattle.std.proofs.KnownBytes.{Appends-nil, Appends-trans}
use Rattle.std.specs.Io.KnownBytes.{Appends, Keeps}
use Rattle.std.proofs.lemmas.Fmt.{contents_after_writes}
use Rattle.std.specs.Fmt.{WritesInCalls}
use Rattle.std.specs.Result.{is_err}
use Rattle.arrayvec.specs.ArrayString.{ArrayString}
use Rattle.http_frames.specs.Frames.{AppendsFront, BreaksOff, grant_text, known_text, piece_text, wait_text}

pub kept_none : (a b : Option (List ℕ)) → Keeps a b → Appends a b []
kept_none None b k = tt
kept_none (Some x) None k = k
kept_none (Some x) (Some y) k = k ∙ sym (append-nil x)

-- nothing of one more frame
pub whole : (held : Option (List ℕ)) → BreaksOff held held
whole held = (piece_text 0 [], inl (0, [], refl), ([], piece_text 0 [], refl, Appends-nil held))

pub whole_kept : (held holds : Option (List ℕ)) → Keeps held holds → BreaksOff held holds
whole_kept held holds keeps = (piece_text 0 [], inl (0, [], refl), ([], piece_text 0 [], refl, kept_none held holds keeps))

pub more_kept : (a b c : Option (List ℕ)) (bytes : List ℕ) → Appends a b bytes → Keeps b c → Appends a c bytes
more_kept a b c bytes x keeps = subst (Appends a c) (append-nil bytes) (Appends-trans a b c bytes [] x (kept_none b c keeps))

pub front_is : (held holds : Option (List ℕ)) (bytes : List ℕ) (n : ℕ) → Appends held holds (take n bytes) → AppendsFront bytes held holds
front_is held holds bytes n x = (take n bytes, drop n bytes, sym (take-append-drop n bytes), x)

back : (bytes : List ℕ) (at : ℕ) → take (length bytes - at) (drop at bytes) ≡ drop at bytes
back bytes at = take_all (length bytes - at) (drop at bytes) (omega (arith, length-drop at bytes))

pub more_front : (held h1 h2 : Option (List ℕ)) (bytes : List ℕ) (at n : ℕ) → Appends held h1 (take at bytes) → Appends h1 h2 (take n (take (length bytes - at) (drop at bytes)))
    → Appends held h2 (take (at + n) bytes)
more_front held h1 h2 bytes at n x y =
    subst (Appends held h2) (sym (take-add at n bytes))
    (Appends-trans held h1 h2 (take at bytes) (take n (drop at bytes)) x (subst (λ (t : List ℕ). Appends h1 h2 (take n t)) (back bytes at) y))

pub within_back : (bytes : List ℕ) (at n : ℕ) → at ≤ length bytes → n ≤ length (take (length bytes - at) (drop at bytes)) → at + n ≤ length bytes
within_back bytes at n within bound = omega (arith, within, bound, ap (λ (t : List ℕ). length t) (back bytes at), length-drop at bytes)

-- a frame is its first line, and then its bytes
pub piece_is : (n : ℕ) (bytes line : List ℕ) → line ≡ decimal n ++ 32 ∷ (decimal (length bytes) ++ 10 ∷ []) → piece_text n bytes ≡ line ++ bytes
piece_is n bytes line is = rw is (simp append_assoc)

-- a front of the first part, and of the second behind the first
pub first_front : (held holds : Option (List ℕ)) (xs ys text : List ℕ) → text ≡ xs ++ ys → AppendsFront xs held holds → AppendsFront text held holds
first_front held holds xs ys text is x = (x.0, x.1 ++ ys, is ∙ ap (λ (t : List ℕ). t ++ ys) x.2 ∙ append_assoc x.0 x.1 ys, x.3)

pub second_front : (held h1 holds : Option (List ℕ)) (xs ys text : List ℕ) → text ≡ xs ++ ys → Appends held h1 xs → AppendsFront ys h1 holds → AppendsFront text held holds
second_front held h1 holds xs ys text is x y =
    (xs ++ y.0, y.1, is ∙ ap (λ (t : List ℕ). xs ++ t) y.2 ∙ sym (append_assoc xs y.0 y.1), Appends-trans held h1 holds xs y.0 x y.3)

pub piece_off : (n : ℕ) (bytes : List ℕ) (held holds : Option (List ℕ)) → AppendsFront (piece_text n bytes) held holds → BreaksOff held holds
piece_off n bytes held holds x = (piece_text n bytes, inl (n, bytes, refl), x)

pub grant_off : (n count : ℕ) (held holds : Option (List ℕ)) → AppendsFront (grant_text n count) held holds → BreaksOff held holds
grant_off n count held holds x = (grant_text n count, inr (inl (n, count, refl)), x)

pub wait_off : (n : ℕ) (part : Bool) (count : ℕ) (held holds : Option (List ℕ)) → AppendsFront (wait_text n part count) held holds → BreaksOff held holds
wait_off n part count held holds x = (wait_text n part count, inr (inr (inl (n, part, count, refl))), x)

pub known_off : (n : ℕ) (held holds : Option (List ℕ)) → AppendsFront (known_text n) held holds → BreaksOff held holds
known_off n held holds x = (known_text n, inr (inr (inr (inl (n, refl)))), x)

pub more_off : (held holds : Option (List ℕ)) → AppendsFront (codes "more\n") held holds → BreaksOff held holds
more_off held holds x = (codes "more\n", inr (inr (inr (inr (inl refl)))), x)

pub touched_off : (held holds : Option (List ℕ)) → AppendsFront (codes "touched\n") held holds → BreaksOff held holds
touched_off held holds x = (codes "touched\n", inr (inr (inr (inr (inr refl)))), x)

-- a grant is its one line
pub grant_is : (n count : ℕ) (line : List ℕ) → line ≡ codes "grant " ++ decimal n ++ 32 ∷ (decimal count ++ 10 ∷ []) → line ≡ grant_text n count
grant_is n count line is = rw is (simp append_assoc)

-- so is the word that a user was let in
pub known_is : (n : ℕ) (line : List ℕ) → line ≡ codes "known " ++ decimal n ++ 10 ∷ [] → line ≡ known_text n
known_is n line is = rw is (simp append_assoc)

-- so is the word that a connection waits
abbrev pub wait_word : Bool → List ℕ
wait_word true = codes "owes"
wait_word false = codes "rests"

pub wait_is : (n : ℕ) (part : Bool) (count : ℕ) (line word : List ℕ) → word ≡ wait_word part → line ≡ word ++ 32 ∷ (decimal n ++ 32 ∷ (decimal count ++ 10 ∷ [])) → line ≡ wait_text n part count
wait_is n true count line word of_it is = rw (is, of_it) (simp append_assoc)
wait_is n false count line word of_it is = rw (is, of_it) (simp append_assoc)

-- what was written into a line that was empty
pub line_is : {E : Type 0} (r : Result (Unit {0}) E) (before after : ArrayString) (text : List ℕ) → is_err r ≡ false → before.bytes ≡ []
    → OnOk r (WritesInCalls (λ (s : ArrayString) (bytes : List ℕ) (t : ArrayString). t.bytes ≡ s.bytes ++ bytes) before text after) → after.bytes ≡ text
line_is (Ok a) before after text ok none writes =
    contents_after_writes (λ (s : ArrayString) (bytes : List ℕ) (t : ArrayString). t.bytes ≡ s.bytes ++ bytes) (λ (s : ArrayString). s.bytes) (λ s bytes t is. is) before text after writes
    ∙ ap (λ (front : List ℕ). front ++ text) none
line_is (Err e) before after text ok none writes = cc
