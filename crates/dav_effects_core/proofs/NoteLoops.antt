-- Notes that are put and read one after the other.
use Rattle.std.proofs.Common.{◌≡◌, ℕ, zero, suc, ◌+◌, ◌-◌, ◌<◌, ◌≤◌, List, [], ◌∷◌, ◌++◌, length, map, get_or, take, drop, Result, Ok, Err, refl, sym, ap, subst, ◌∙◌, append_assoc, arith, add-one, drop-cons}
use Rattle.std.specs.List.{flat_map, AllByRecursion}
use Rattle.std.proofs.lemmas.List.{append-nil, nil_from_length, length-drop}
use Rattle.dav_notes_core.specs.declared.notes.Note.{Note}
use Rattle.dav_notes_core.specs.Noting.{Noted, note_of}
use Rattle.dav_effects_core.specs.declared.error.ReadError.{ReadError}
use Rattle.dav_effects_core.specs.declared.error.ReadError.TheVariants.{Memory, Fault}
use Rattle.dav_effects_core.specs.ByteForms.{◌>>=◌}
use Rattle.dav_effects_core.specs.Reads.{FailsAs}
use Rattle.dav_effects_core.specs.RecordReading.{Behind, behind_note, behind_of, note_at, notes_at}
use Rattle.dav_effects_core.specs.RecordText.{asker, body_of, caller_text, path_behind, note_text, notes_text}

pub all_at : {A B : Type 0} (f : A → B) (P : B → Type 0) (xs : List A) (i : ℕ) (d : A) → AllByRecursion P (map f xs) → i < length xs → P (f (get_or xs i d))
all_at f P [] i d h lt = absurd (omega arith)
all_at f P (x ∷ xs) zero d h lt = h.0
all_at f P (x ∷ xs) (suc i) d h lt = all_at f P xs i d h.1 (omega arith)

-- of the notes that are left, the first, and the others behind it
pub notes_next : (caller path : List ℕ) (xs : List Note) (i : ℕ) (d : Note) → i < length xs
    → notes_text caller path (map note_of (drop i xs)) ≡ note_text caller path (note_of (get_or xs i d))
    ++ notes_text (caller_text (asker (note_of (get_or xs i d)).request)) (path_behind path (note_of (get_or xs i d)).request.command) (map note_of (drop (i + 1) xs))
unfolding notes_text
notes_next caller path xs i d lt = rw (add-one, drop-cons xs i d) refl

-- one note more
pub put_step : (out out' caller caller' path path' whole : List ℕ) (xs : List Note) (i : ℕ) (x : Note) → i < length xs → x ≡ get_or xs i x
    → out' ≡ out ++ note_text caller path (note_of x) → caller' ≡ caller_text (asker (note_of x).request) → path' ≡ path_behind path (note_of x).request.command
    → out ++ notes_text caller path (map note_of (drop i xs)) ≡ whole → out' ++ notes_text caller' path' (map note_of (drop (i + 1) xs)) ≡ whole
put_step out out' caller caller' path path' whole xs i x lt at o c p so_far =
    let more = notes_text (caller_text (asker (note_of x).request)) (path_behind path (note_of x).request.command) (map note_of (drop (i + 1) xs)) in
    let next : notes_text caller path (map note_of (drop i xs)) ≡ note_text caller path (note_of x) ++ more =
    subst (λ (y : Note). notes_text caller path (map note_of (drop i xs)) ≡ note_text caller path (note_of y)
    ++ notes_text (caller_text (asker (note_of y).request)) (path_behind path (note_of y).request.command) (map note_of (drop (i + 1) xs))) (sym at) (notes_next caller path xs i x lt) in
    rw (o, c, p) (append_assoc out (note_text caller path (note_of x)) more ∙ ap (λ (r : List ℕ). out ++ r) (sym next) ∙ so_far)

pub put_done : (out caller path whole : List ℕ) (xs : List Note) (i : ℕ) → length xs ≤ i → out ++ notes_text caller path (map note_of (drop i xs)) ≡ whole → out ≡ whole
unfolding notes_text
put_done out caller path whole xs i le so_far =
    let none : drop i xs ≡ [] = nil_from_length (drop i xs) (omega (arith, length-drop i xs)) in
    sym (append-nil out) ∙ ap (λ (l : List Note). out ++ notes_text caller path (map note_of l)) (sym none) ∙ so_far

-- what was read before, and what is still read
abbrev pub notes_front : List Noted → Result ((List Noted × List ℕ) × List ℕ) ℕ → Result ((List Noted × List ℕ) × List ℕ) ℕ
notes_front front read = read >>= λ x. Ok ((front ++ x.0.0, x.0.1), x.1)

regroup : (front : List Noted) (n : Noted) (read : Result ((List Noted × List ℕ) × List ℕ) ℕ) → notes_front front (read >>= λ x. Ok ((n ∷ x.0.0, x.0.1), x.1)) ≡ notes_front (front ++ n ∷ []) read
regroup front n (Ok x) = ap (λ (ns : List Noted). Ok ((ns, x.0.1), x.1)) (simp append_assoc)
regroup front n (Err f) = refl

pub notes_go_on : (front : List Noted) (count i : ℕ) (s : Behind) (bytes : List ℕ) (n : Noted) (behind : List ℕ) (total : Result ((List Noted × List ℕ) × List ℕ) ℕ) → i < count → note_at s bytes ≡ Ok (n, behind)
    → notes_front front (notes_at (count - i) s bytes) ≡ total → notes_front (front ++ n ∷ []) (notes_at (count - (i + 1)) (behind_note s n) behind) ≡ total
unfolding notes_at
notes_go_on front count i s bytes n behind total lt h so_far =
    let k : count - i ≡ suc (count - (i + 1)) = omega arith in
    let one : notes_front front (notes_at (count - i) s bytes) ≡ notes_front (front ++ n ∷ []) (notes_at (count - (i + 1)) (behind_note s n) behind) = rw (k, h) (regroup front n (notes_at (count - (i + 1)) (behind_note s n) behind)) in
    sym one ∙ so_far

pub notes_fail : (e : ReadError) (front : List Noted) (count i : ℕ) (s : Behind) (bytes : List ℕ) (total : Result ((List Noted × List ℕ) × List ℕ) ℕ) → i < count → FailsAs e (note_at s bytes)
    → notes_front front (notes_at (count - i) s bytes) ≡ total → FailsAs e total
unfolding notes_at
notes_fail Memory front count i s bytes total lt h so_far = tt
notes_fail (Fault left) front count i s bytes total lt h so_far =
    let k : count - i ≡ suc (count - (i + 1)) = omega arith in
    let one : notes_front front (notes_at (count - i) s bytes) ≡ Err left = rw (k, h) refl in
    sym so_far ∙ one

pub notes_done : (front : List Noted) (count i : ℕ) (s : Behind) (bytes : List ℕ) (total : Result ((List Noted × List ℕ) × List ℕ) ℕ) → count ≤ i → notes_front front (notes_at (count - i) s bytes) ≡ total → total ≡ Ok ((front, s.bodies), bytes)
unfolding notes_at
notes_done front count i s bytes total le so_far =
    let k : count - i ≡ 0 = omega arith in
    let one : notes_front front (notes_at (count - i) s bytes) ≡ Ok ((front, s.bodies), bytes) = rw k (ap (λ (ns : List Noted). Ok ((ns, s.bodies), bytes)) (append-nil front)) in
    sym so_far ∙ one

-- one note more
pub read_step : (front : List Noted) (count i : ℕ) (caller caller' path path' bodies bodies' bytes behind : List ℕ) (n : Noted) (total : Result ((List Noted × List ℕ) × List ℕ) ℕ) → i < count
    → note_at (behind_of caller path bodies) bytes ≡ Ok (n, behind)
    → caller' ≡ caller_text (asker n.request) → path' ≡ path_behind path n.request.command → bodies' ≡ drop (length (body_of n.request.command)) bodies
    → notes_front front (notes_at (count - i) (behind_of caller path bodies) bytes) ≡ total → notes_front (front ++ n ∷ []) (notes_at (count - (i + 1)) (behind_of caller' path' bodies') behind) ≡ total
read_step front count i caller caller' path path' bodies bodies' bytes behind n total lt h c p b so_far =
    rw (c, p, b) (notes_go_on front count i (behind_of caller path bodies) bytes n behind total lt h so_far)
