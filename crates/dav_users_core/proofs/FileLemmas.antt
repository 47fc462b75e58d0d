-- The lines of a file, one after another, and the users that they add.
use Rattle.std.proofs.Common.{◌≡◌, ◌==◌, ◌<◌, ◌≤◌, ◌+◌, ◌-◌, if◌then◌else◌, ℕ, zero, suc, Bool, true, false, List, [], ◌∷◌, length, take, drop, get_or, Some, None, Ok, Err, refl, sym, ◌∙◌, ap, subst, arith, length-drop}
use Rattle.std.proofs.lemmas.List.{take_all}
use Rattle.std.proofs.lemmas.List.Elements.{All-from_get_or}
use Rattle.std.proofs.lemmas.List.Folds.{list_any_none}
use Rattle.std.proofs.lemmas.List.Sums.{fails_before_first}
use Rattle.std.specs.List.{fold, list_any, position_or_len}
use Rattle.line_streams.specs.Lines.{lines, longer}
use Rattle.memchr.specs.Find.{IsFirstByte, is_byte}
use Rattle.dav_users_core.specs.declared.error.LineFault.{LineFault}
use Rattle.dav_users_core.specs.declared.error.UsersError.{UsersError}
use Rattle.dav_users_core.specs.declared.error.UsersError.TheVariants.{OutOfMemory, Line}
use Rattle.dav_users_core.specs.Users.{IsUsersFault, UsersReading, UserLine, is_colon, at_number, read_line, users_of, with_line}

next : (k : ℕ) → suc (k + 1) ≡ suc k + 1
next k = omega arith

other : (b : Bool) → ¬ (b ≡ true) → b ≡ false
other true h = absurd (h refl)
other false h = refl

-- a line that ends at a line feed
first_of : (bytes : List ℕ) (k : ℕ) → k < length bytes → ((i : ℕ) → i < k → (get_or bytes i 0 == 10) ≡ false) → (get_or bytes k 0 == 10) ≡ true
    → lines bytes ≡ take k bytes ∷ lines (drop (k + 1) bytes)
first_of [] k lt before at = absurd (omega (arith, lt))
first_of (b ∷ bytes) zero lt before at = ap (λ (t : Bool). if t then [] ∷ lines bytes else longer b (lines bytes)) at
first_of (b ∷ bytes) (suc k) lt before at =
    ap (λ (t : Bool). if t then [] ∷ lines bytes else longer b (lines bytes)) (before 0 (omega arith))
    ∙ ap (longer b) (first_of bytes k (omega (arith, lt)) (λ i less. before (suc i) (omega (arith, less))) at)
    ∙ ap (λ (n : ℕ). (b ∷ take k bytes) ∷ lines (drop n (b ∷ bytes))) (next k)

-- a last line, which ends with the bytes
last_of : (bytes : List ℕ) → 0 < length bytes → ((i : ℕ) → i < length bytes → (get_or bytes i 0 == 10) ≡ false) → lines bytes ≡ bytes ∷ []
last_of [] some none = absurd (omega (arith, some))
last_of (b ∷ []) some none = ap (λ (t : Bool). if t then [] ∷ [] else (b ∷ []) ∷ []) (none 0 (omega arith))
last_of (b ∷ c ∷ bytes) some none =
    ap (λ (t : Bool). if t then [] ∷ lines (c ∷ bytes) else longer b (lines (c ∷ bytes))) (none 0 (omega arith))
    ∙ ap (longer b) (last_of (c ∷ bytes) (omega arith) (λ i less. none (suc i) (omega (arith, less))))

-- by a search for the first line feed
pub line_at : (bytes : List ℕ) (k : ℕ) → IsFirstByte (is_byte 10) bytes (Some k) → lines bytes ≡ take k bytes ∷ lines (take (length bytes - (k + 1)) (drop (k + 1) bytes))
line_at bytes k found =
    let all : length (drop (k + 1) bytes) ≤ length bytes - (k + 1) = omega (arith, length-drop (k + 1) bytes) in
    first_of bytes k found.0.high (λ i less. other (get_or bytes i 0 == 10) (found.0.before i (omega arith) less)) found.1
    ∙ ap (λ (l : List ℕ). take k bytes ∷ lines l) (sym (take_all (length bytes - (k + 1)) (drop (k + 1) bytes) all))

pub line_alone : (bytes : List ℕ) → 0 < length bytes → IsFirstByte (is_byte 10) bytes None → lines bytes ≡ bytes ∷ []
line_alone bytes some none = last_of bytes some (λ i less. other (get_or bytes i 0 == 10) (none i (omega arith) less))

-- what is wrong stays so
fault_stays : (e : UsersError) (reading : UsersReading) (ls : List (List ℕ)) → IsUsersFault e reading → IsUsersFault e (fold read_line reading ls)
fault_stays OutOfMemory reading ls h = tt
fault_stays (Line number fault) reading ls h = ap (λ (r : UsersReading). fold read_line r ls) h ∙ wrong (number, fault) ls
  where
    wrong : (e : ℕ × LineFault) (ls : List (List ℕ)) → fold read_line (Err e) ls ≡ Err e
    wrong e [] = refl
    wrong e (l ∷ ls) = wrong e ls

-- where a line is wrong, that is what the file is read as
pub fault_at : (e : UsersError) (users : List UserLine) (number : ℕ) (rest line behind file : List ℕ) → fold read_line (Ok (users, number)) (lines rest) ≡ users_of file → lines rest ≡ line ∷ lines behind
    → IsUsersFault e (at_number (number + 1) (with_line users line)) → IsUsersFault e (users_of file)
fault_at e users number rest line behind file left split h =
    subst (IsUsersFault e) (ap (λ (ls : List (List ℕ)). fold read_line (Ok (users, number)) ls) (sym split) ∙ left) (fault_stays e (at_number (number + 1) (with_line users line)) (lines behind) h)

-- where the first colon would stand behind the end, there is none
pub no_colon : (text : List ℕ) → position_or_len is_colon text ≡ length text → list_any is_colon text ≡ false
no_colon text none = list_any_none is_colon text (All-from_get_or (λ b. is_colon b ≡ false) text 0 (λ k lt. fails_before_first is_colon text k 0 (omega (arith, lt, none))))
