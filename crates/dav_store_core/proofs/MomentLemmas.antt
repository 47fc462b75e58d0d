-- The moments of notes, one after another.
use Rattle.std.proofs.Common.{◌≡◌, ◌≤◌, ◌<◌, ◌+◌, ℕ, List, [], ◌∷◌, ◌++◌, length, take, drop, get_or, map, refl, sym, ◌∙◌, ap, append_assoc, subst, arith}
use Rattle.std.proofs.lemmas.List.{map-append, take-append-drop, take_more}
use Rattle.dav_notes_core.specs.declared.notes.Note.{Note}
use Rattle.dav_notes_core.specs.Noting.{Noted, note_of}
use Rattle.dav_store_core.specs.StandingFor.{NeverBack, last_moment_of}

-- one note more
back_on : (before : ℕ) (ns : List Noted) (n : Noted) → NeverBack before ns → last_moment_of before ns ≤ n.request.now → NeverBack before (ns ++ n ∷ [])
back_on before [] n h le = (le, tt)
back_on before (m ∷ ns) n h le = (h.0, back_on m.request.now ns n h.1 le)

last_on : (before : ℕ) (ns : List Noted) (n : Noted) → last_moment_of before (ns ++ n ∷ []) ≡ n.request.now
last_on before [] n = refl
last_on before (m ∷ ns) n = last_on m.request.now ns n

-- within notes that never go back
back_at : (before : ℕ) (ns : List Noted) (n : Noted) (ms : List Noted) → NeverBack before (ns ++ n ∷ ms) → last_moment_of before ns ≤ n.request.now
back_at before [] n ms h = h.0
back_at before (m ∷ ns) n ms h = back_at m.request.now ns n ms h.1

one_more : (notes : List Note) (i : ℕ) (n : Note) → i < length notes → n ≡ get_or notes i n → map note_of (take (i + 1) notes) ≡ map note_of (take i notes) ++ note_of n ∷ []
one_more notes i n lt is = ap (map note_of) (take_more notes i n lt ∙ ap (λ (m : Note). take i notes ++ m ∷ []) (sym is)) ∙ map-append note_of (take i notes) (n ∷ [])

-- the notes up to one more
pub ordered_on : (notes : List Note) (i : ℕ) (n : Note) (before last : ℕ) → i < length notes → n ≡ get_or notes i n → NeverBack before (map note_of (take i notes))
    → last ≡ last_moment_of before (map note_of (take i notes)) → last ≤ (note_of n).request.now → NeverBack before (map note_of (take (i + 1) notes))
ordered_on notes i n before last lt is h last_is le =
    subst (NeverBack before) (sym (one_more notes i n lt is)) (back_on before (map note_of (take i notes)) (note_of n) h (subst (λ (k : ℕ). k ≤ (note_of n).request.now) last_is le))

pub last_now : (notes : List Note) (i : ℕ) (n : Note) (before : ℕ) → i < length notes → n ≡ get_or notes i n → (note_of n).request.now ≡ last_moment_of before (map note_of (take (i + 1) notes))
last_now notes i n before lt is = sym (ap (last_moment_of before) (one_more notes i n lt is) ∙ last_on before (map note_of (take i notes)) (note_of n))

-- a note of a moment before that in front of it
pub goes_back : (notes : List Note) (i : ℕ) (n : Note) (before last : ℕ) → i < length notes → n ≡ get_or notes i n → last ≡ last_moment_of before (map note_of (take i notes))
    → (note_of n).request.now < last → ¬ (NeverBack before (map note_of notes))
goes_back notes i n before last lt is last_is less h =
    let whole : map note_of notes ≡ map note_of (take i notes) ++ note_of n ∷ map note_of (drop (i + 1) notes) =
    ap (map note_of) (sym (take-append-drop (i + 1) notes)) ∙ map-append note_of (take (i + 1) notes) (drop (i + 1) notes)
    ∙ ap (λ (l : List Noted). l ++ map note_of (drop (i + 1) notes)) (one_more notes i n lt is) ∙ append_assoc (map note_of (take i notes)) (note_of n ∷ []) (map note_of (drop (i + 1) notes)) in
    let le = back_at before (map note_of (take i notes)) (note_of n) (map note_of (drop (i + 1) notes)) (subst (NeverBack before) whole h) in
    omega (arith, le, less, last_is)
