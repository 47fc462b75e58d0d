-- Pieces that are kept, each behind a slash.
use Rattle.std.proofs.Common.{◌≡◌, ℕ, ◌+◌, ◌<◌, List, [], ◌∷◌, ◌++◌, length, get_or, sym, refl, ap, subst, ◌∙◌, arith, ⊎_elim, inl, inr, Some, Ok, Err, Bool, true, false}
use Rattle.std.specs.Prelude.{Contains, Result, OnOk, IsTrue, not, ◌&&◌}
use Rattle.std.proofs.lemmas.Grind.{flat_map-append}
use Rattle.std.proofs.lemmas.List.{append-nil, length-append}
use Rattle.std.proofs.lemmas.List.Elements.{All-push, All-pop, Contains-append_right, Contains-append_cases, Contains-push_cases}
use Rattle.percent_encoding.specs.Percent.{percent_decode}
use Rattle.dav_path_core.specs.Segments.{slash_pieces}
use Rattle.dav_path_core.specs.PathReading.{decoded_pieces, IsForeign}
use Rattle.dav_path_core.specs.Private.Keeping.{behind_slashes, Spells, TakesPiece}
use Rattle.dav_path_core.proofs.paths.KeptLemmas.{Along, Along-turn}
use Rattle.dav_path_core.proofs.lists.Snoc.{by_last}

-- what is said of a value is weakened
pub OnOk-weaker : {T E : Type 0} (r : Result T E) (P Q : Type 0) → (P → Q) → OnOk r P → OnOk r Q
OnOk-weaker (Ok x) P Q f h = f h
OnOk-weaker (Err e) P Q f h = tt

-- neither of two tests, as a test
pub neither : (a b : Bool) → a ≡ false → b ≡ false → IsTrue (not a && not b)
neither false false p q = refl
neither true b p q = cc
neither false true p q = cc

-- the last of some bytes stands at one place
pub same_front : (a c b d : List ℕ) → ¬ Contains b 47 → ¬ Contains d 47 → a ++ 47 ∷ b ≡ c ++ 47 ∷ d → a ≡ c
same_front [] [] b d p q e = refl
same_front [] (y ∷ c) b d p q e =
    let rest : b ≡ c ++ 47 ∷ d = cc in absurd (p (subst (λ l. Contains l 47) (sym rest) (Contains-append_right c (47 ∷ d) 47 (0, omega arith, refl))))
same_front (x ∷ a) [] b d p q e =
    let rest : a ++ 47 ∷ b ≡ d = cc in absurd (q (subst (λ l. Contains l 47) rest (Contains-append_right a (47 ∷ b) 47 (0, omega arith, refl))))
same_front (x ∷ a) (y ∷ c) b d p q e =
    let heads : x ≡ y = cc in
    let rest : a ++ 47 ∷ b ≡ c ++ 47 ∷ d = cc in
    let fronts = same_front a c b d p q rest in cc

pub nothing_in_none : (b : ℕ) → ¬ Contains [] b
nothing_in_none b h = absurd (omega (arith, h.1))

-- one byte more in front
pub no_slash_more : (b : ℕ) (rest : List ℕ) → ¬ (b ≡ 47) → ¬ Contains rest 47 → ¬ Contains (b ∷ rest) 47
no_slash_more b rest p q h = ⊎_elim (λ w. ⊎_elim (nothing_in_none 47) p (Contains-push_cases [] b 47 w)) q (Contains-append_cases (b ∷ []) rest 47 h)

-- one piece more
pub slashed-push : (kept : List (List ℕ)) (s : List ℕ) → behind_slashes (kept ++ s ∷ []) ≡ behind_slashes kept ++ 47 ∷ s
slashed-push kept s = flat_map-append (λ t. 47 ∷ t) kept (s ∷ []) ∙ ap (λ l. behind_slashes kept ++ 47 ∷ l) (append-nil s)

pub Spells-none : Spells [] []
Spells-none = record { whole = λ k d lt. absurd (omega (arith, lt)); spelling = refl }

pub Spells-push : (kept : List (List ℕ)) (path s : List ℕ) → ¬ Contains s 47 → Spells kept path → Spells (kept ++ s ∷ []) (path ++ 47 ∷ s)
Spells-push kept path s clean h = record {
  whole = All-push (λ t. ¬ Contains t 47) kept s h.whole clean;
  spelling = ap (λ l. l ++ 47 ∷ s) h.spelling ∙ sym (slashed-push kept s);
}

-- what stands before the last slash is the path without the last piece
pub Spells-pop : (kept : List (List ℕ)) (front last : List ℕ) → ¬ Contains last 47 → Spells kept (front ++ 47 ∷ last)
    → (new : List (List ℕ)) × (s : List ℕ) × (kept ≡ new ++ s ∷ []) × Spells new front
Spells-pop kept front last clean h = elim (by_last kept) [
  | inl e ↦ absurd (omega (arith, ap length (h.spelling ∙ ap behind_slashes e), length-append front (47 ∷ last)))
  | inr w ↦
      let parts = All-pop (λ t. ¬ Contains t 47) kept w.0 (Some w.1) w.2 h.whole in
      let e = h.spelling ∙ ap behind_slashes w.2 ∙ slashed-push w.0 w.1 in
      (w.0, w.1, w.2, record { whole = parts.0; spelling = same_front front (behind_slashes w.0) last w.1 clean parts.1 e })
]

-- without a slash nothing is kept
pub Spells-empty : (kept : List (List ℕ)) (path : List ℕ) → ¬ Contains path 47 → Spells kept path → kept ≡ []
Spells-empty [] path clean h = refl
Spells-empty (s ∷ kept) path clean h = absurd (clean (subst (λ l. Contains l 47) (sym h.spelling) (0, omega arith, refl)))

-- a path is empty where nothing is kept, alone
pub slashed-empty : (kept : List (List ℕ)) (path : List ℕ) → path ≡ behind_slashes kept → length path ≡ 0 → length kept ≡ 0
slashed-empty [] path e h = refl
slashed-empty (s ∷ kept) path e h = absurd (omega (arith, h, ap length e))

pub slashed-some : (kept : List (List ℕ)) (path : List ℕ) → path ≡ behind_slashes kept → 0 < length path → 0 < length kept
slashed-some [] path e h = absurd (omega (arith, h, ap length e))
slashed-some (s ∷ kept) path e h = omega arith

-- ---- over the raw pieces

-- these bytes are the path of what is kept of the first n pieces
abbrev pub KeptPath : (raw_text path : List ℕ) (n : ℕ) → Type 0
KeptPath raw_text path n = (kept : List (List ℕ)) × Along (decoded_pieces raw_text) kept n × Spells kept path

pub KeptPath-turn : (raw_text piece decoded old new : List ℕ) (n : ℕ) → KeptPath raw_text old n
    → ((kept : List (List ℕ)) → Spells kept old → (more : List (List ℕ)) × TakesPiece kept decoded more × Spells more new)
    → (n < length (slash_pieces raw_text)) × (piece ≡ get_or (slash_pieces raw_text) n piece) → decoded ≡ percent_decode piece → ¬ IsForeign decoded
    → KeptPath raw_text new (n + 1)
KeptPath-turn raw_text piece decoded old new n h takes t e clean =
    let next = takes h.0 h.2 in
    (next.0, Along-turn raw_text piece decoded h.0 next.0 n h.1 t e clean next.1, next.2)
