-- Whether a lock stands in a list is decided: two locks are one where their fields are.
use Rattle.std.proofs.Common.{◌≡◌, ◌⊎◌, inl, inr, ℕ, Bool, true, false, List, [], ◌∷◌, Option, None, Some, refl, sym, ◌∙◌, ap}
use Rattle.std.specs.Prelude.{Contains, bytes_eq, ◌==◌}
use Rattle.std.proofs.lemmas.Bool.{cases_Bool, true≢false}
use Rattle.std.proofs.lemmas.Bool.Decides.{Decides-eqb}
use Rattle.std.proofs.lemmas.Slice.Eq.{bytes_eq-Decides}
use Rattle.dav_path_core.proofs.lists.MemberLemmas.{In, In-Contains, Contains-In}
use Rattle.dav_locks_core.specs.Lock.{Lock}

-- it holds, or it doesn't
abbrev Decided : Type 0 → Type 0
Decided P = P ⊎ ¬ P

same_bytes : (x y : List ℕ) → Decided (x ≡ y)
same_bytes x y = elim (cases_Bool (bytes_eq x y)) [
  | inl equal ↦ inl ((bytes_eq-Decides x y).0 equal)
  | inr apart ↦ inr (λ e. true≢false (sym ((bytes_eq-Decides x y).1 e) ∙ apart))
]

same_number : (x y : ℕ) → Decided (x ≡ y)
same_number x y = elim (cases_Bool (x == y)) [
  | inl equal ↦ inl ((Decides-eqb x y).0 equal)
  | inr apart ↦ inr (λ e. true≢false (sym ((Decides-eqb x y).1 e) ∙ apart))
]

same_flag : (x y : Bool) → Decided (x ≡ y)
same_flag true true = inl refl
same_flag true false = inr (λ e. true≢false e)
same_flag false true = inr (λ e. true≢false (sym e))
same_flag false false = inl refl

same_option : {A : Type 0} → ((x y : A) → Decided (x ≡ y)) → (x y : Option A) → Decided (x ≡ y)
same_option same None None = inl refl
same_option same None (Some y) = inr (λ e. cc)
same_option same (Some x) None = inr (λ e. cc)
same_option same (Some x) (Some y) = elim (same x y) [
  | inl e ↦ inl (ap Some e)
  | inr none ↦ inr (λ e. none (cc))
]

same_pair : {A B : Type 0} → ((x y : A) → Decided (x ≡ y)) → ((x y : B) → Decided (x ≡ y))
    → (p q : A × B) → Decided (p ≡ q)
same_pair first second (x, y) (v, w) = elim (first x v) [
  | inr none ↦ inr (λ e. none (ap (λ p. p.0) e))
  | inl e ↦ elim (second y w) [
    | inr none ↦ inr (λ e. none (ap (λ p. p.1) e))
    | inl f ↦ inl (ap (λ z. (z, y)) e ∙ ap (λ z. (v, z)) f)
  ]
]

-- ---- locks

-- a lock as a tuple: its token and its path; its principal and its owner; when it ends; its scope and
-- its depth
abbrev Parts : Type 0
Parts =
    (List ℕ × (List ℕ × List ℕ))
    × ((Option (List ℕ) × Option (List ℕ)) × ((Option ℕ × Option ℕ) × (Bool × Bool)))

abbrev parts_of : Lock → Parts
parts_of l = (
  (l.token, (l.path.prefix, l.path.bytes)),
  ((l.principal, l.owner), ((l.timeout_at, l.timeout), (l.shared, l.deep))),
)

abbrev of_parts : Parts → Lock
of_parts p = record {
  token = p.0.0;
  path = record { prefix = p.0.1.0; bytes = p.0.1.1 };
  principal = p.1.0.0;
  owner = p.1.0.1;
  timeout_at = p.1.1.0.0;
  timeout = p.1.1.0.1;
  shared = p.1.1.1.0;
  deep = p.1.1.1.1;
}

same_parts : (p q : Parts) → Decided (p ≡ q)
same_parts =
    let text = same_option same_bytes in
    let moment = same_option same_number in
    let ends = same_pair moment moment in
    let flags = same_pair same_flag same_flag in
    same_pair (same_pair same_bytes (same_pair same_bytes same_bytes))
    (same_pair (same_pair text text) (same_pair ends flags))

same_lock : (l k : Lock) → Decided (l ≡ k)
same_lock l k = elim (same_parts (parts_of l) (parts_of k)) [
  | inl e ↦ inl (ap of_parts e)
  | inr none ↦ inr (λ e. none (ap parts_of e))
]

-- whether a lock stands in a list
pub contained : (l : Lock) (locks : List Lock) → Contains locks l ⊎ ¬ Contains locks l
contained l locks = elim (inside locks) [
  | inl i ↦ inl (Contains-In locks l i)
  | inr none ↦ inr (λ c. none (In-Contains locks l c))
]
  where
    inside : (locks : List Lock) → Decided (In l locks)
    inside [] = inr (λ h. h)
    inside (k ∷ locks) = elim (same_lock k l) [
      | inl is ↦ inl (inl is)
      | inr other ↦ elim (inside locks) [
        | inl i ↦ inl (inr i)
        | inr none ↦ inr (λ i. elim i [ inl is ↦ other is | inr j ↦ none j ])
      ]
    ]
