-- The first line of what was read, and the frame that it begins.
use Rattle.std.proofs.Common.{◌≡◌, ◌≢◌, ℕ, ◌+◌, ◌-◌, ◌<◌, ◌≤◌, List, [], ◌∷◌, ◌++◌, length, take, drop, get_or, Option, Some, None, All, refl, sym, ap, ◌∙◌, subst, arith, eq-eqb, eqb-true, length-take, length-drop, take-add, take-append-drop, inl, inr}
use Rattle.std.proofs.lemmas.List.{get_or-take, take_more}
use Rattle.std.proofs.lemmas.List.Elements.{All-from_get_or}
use Rattle.memchr.specs.Find.{IsFirstByte, is_byte}
use Rattle.http_frames.specs.declared.frames.Head.{Head}
use Rattle.http_frames.specs.declared.frames.Head.TheVariants.{Piece, Taken, Gone, Clock, Free, From, Users, Late, Turned, Nothing, Touch, Go}
use Rattle.http_frames.specs.Frames.{IsLine, IsFrame, IsPart, frame_bytes, head, more_in}

-- no line has come whole
pub no_feed : (bytes : List ℕ) → IsFirstByte (is_byte 10) bytes None → All (λ b. b ≢ 10) bytes
no_feed bytes none = All-from_get_or (λ b. b ≢ 10) bytes 0 (λ k lt is. none k (omega arith) lt (eq-eqb (get_or bytes k 0) 10 is))

-- none comes before the first line feed
pub none_before : (bytes : List ℕ) (k n : ℕ) → n ≤ k → IsFirstByte (is_byte 10) bytes (Some k) → All (λ b. b ≢ 10) (take n bytes)
none_before bytes k n within x = All-from_get_or (λ b. b ≢ 10) (take n bytes) 0 (λ i lt is.
    let near : i < n = omega (arith, lt, length-take n bytes) in
    x.0.before i (omega arith) (omega (arith, near, within)) (eq-eqb (get_or bytes i 0) 10 (sym (get_or-take n bytes i 0 near) ∙ is)))

-- the first line feed ends the first line
pub first_line : (bytes : List ℕ) (k : ℕ) → k < 4096 → IsFirstByte (is_byte 10) bytes (Some k) → IsLine (take k bytes) (take (k + 1) bytes)
first_line bytes k short x = record {
  whole = none_before bytes k k (omega arith) x;
  short = omega (arith, short, length-take k bytes);
  text_is = take_more bytes k 0 x.0.high ∙ ap (λ (b : ℕ). take k bytes ++ b ∷ []) (eqb-true (get_or bytes k 0) 10 x.1);
}

-- the line ends the frame
bare : (bytes : List ℕ) (k m : ℕ) → IsLine (take k bytes) (take (k + 1) bytes) → m ≡ 0 → IsLine (take k bytes) (take (k + 1 + m) bytes)
bare bytes k m line none = subst (λ (n : ℕ). IsLine (take k bytes) (take n bytes)) (omega (arith, none)) line

-- the line, and the bytes that follow it
pub framed : (h : Option Head) (bytes : List ℕ) (k m : ℕ) → IsLine (take k bytes) (take (k + 1) bytes) → head (take k bytes) ≡ h → m ≡ more_in h → k + 1 + m ≤ length bytes
    → IsFrame h (frame_bytes h (take k bytes) (take ((k + 1 + m) - (k + 1)) (drop (k + 1) bytes))) (take (k + 1 + m) bytes)
framed None bytes k m line says is within = inl (take k bytes, bare bytes k m line is, says)
framed (Some (Piece n l)) bytes k m line says is within =
    let behind = take ((k + 1 + m) - (k + 1)) (drop (k + 1) bytes) in
    let all : length behind ≡ l = omega (arith, is, length-take ((k + 1 + m) - (k + 1)) (drop (k + 1) bytes), length-drop (k + 1) bytes) in
    record {
      line = take k bytes;
      first = take (k + 1) bytes;
      is_line = line;
      says = says ∙ ap (λ (l : ℕ). Some (Piece n l)) (sym all);
      text_is = take-add (k + 1) m bytes ∙ ap (λ (j : ℕ). take (k + 1) bytes ++ take j (drop (k + 1) bytes)) (omega arith);
    }
framed (Some (Taken n l)) bytes k m line says is within = (take k bytes, bare bytes k m line is, says)
framed (Some (Gone n)) bytes k m line says is within = (take k bytes, bare bytes k m line is, says)
framed (Some (Clock n)) bytes k m line says is within = (take k bytes, bare bytes k m line is, says)
framed (Some (Free n)) bytes k m line says is within = (take k bytes, bare bytes k m line is, says)
framed (Some (Late n)) bytes k m line says is within = (take k bytes, bare bytes k m line is, says)
framed (Some (Turned n)) bytes k m line says is within = (take k bytes, bare bytes k m line is, says, refl)
framed (Some (From n)) bytes k m line says is within = (take k bytes, bare bytes k m line is, says, refl)
framed (Some (Users l)) bytes k m line says is within =
    let behind = take ((k + 1 + m) - (k + 1)) (drop (k + 1) bytes) in
    let all : length behind ≡ l = omega (arith, is, length-take ((k + 1 + m) - (k + 1)) (drop (k + 1) bytes), length-drop (k + 1) bytes) in
    record {
      line = take k bytes;
      first = take (k + 1) bytes;
      is_line = line;
      says = says ∙ ap (λ (l : ℕ). Some (Users l)) (sym all);
      text_is = take-add (k + 1) m bytes ∙ ap (λ (j : ℕ). take (k + 1) bytes ++ take j (drop (k + 1) bytes)) (omega arith);
    }
framed (Some Nothing) bytes k m line says is within = (take k bytes, bare bytes k m line is, says)
framed (Some Touch) bytes k m line says is within = (take k bytes, bare bytes k m line is, says)
framed (Some Go) bytes k m line says is within = (take k bytes, bare bytes k m line is, says)

-- not all bytes that follow it have come
pub cut : (h : Option Head) (bytes : List ℕ) (k m : ℕ) → IsLine (take k bytes) (take (k + 1) bytes) → head (take k bytes) ≡ h → m ≡ more_in h → length bytes - (k + 1) < m → IsPart bytes
cut h bytes k m line says is few =
    inr (take k bytes, take (k + 1) bytes, drop (k + 1) bytes, sym (take-append-drop (k + 1) bytes), line, omega (arith, few, is, ap more_in says, length-drop (k + 1) bytes))
