-- One more part of a sequence.
use Rattle.std.proofs.Common.{◌≡◌, refl, sym, ap, ◌∙◌, ℕ, suc, ◌+◌, ◌-◌, ◌<◌, ◌≤◌, arith, List, length, [], ◌∷◌, ◌++◌, Option, None, Some}
use Rattle.std.proofs.lemmas.List.{append_assoc, append-nil}
use Rattle.dav_xml_core.specs.Optional.{◌>>=◌, choose}
use Rattle.dav_xml_core.specs.Scanning.{Found}
use Rattle.dav_xml_core.specs.Sequences.{many, sequence, at_end}

-- the parts found, with those before them
abbrev pub with_front : {A E : Type 0} → List A → Option (List A × E) → Option (List A × E)
with_front front (Some x) = Some (front ++ x.0, x.1)
with_front front None = None

-- how many turns are left, at a turn
left : (n k : ℕ) → k < n → n - k ≡ suc (n - (k + 1))
left n k lt = omega arith

none_left : (n k : ℕ) → n ≤ k → n - k ≡ 0
none_left n k le = omega arith

module _ {A E : Type 0} (ending : List ℕ → Option E) (part : List ℕ → Found A) where
  abbrev more : ℕ → Found A → Option (List A × E)
  more n found = found >>= λ first. many ending part n first.1 >>= λ others. Some (first.0 ∷ others.0, others.1)

  abbrev turn : ℕ → List ℕ → Option E → Option (List A × E)
  turn n text ended = choose ended (λ e. Some ([], e)) (more n (part text))

  turn_at : (n k : ℕ) (rest : List ℕ) (ended : Option E) → k < n → ending rest ≡ ended → many ending part (n - k) rest ≡ turn (n - (k + 1)) rest ended
  unfolding many
  turn_at n k rest ended lt e = ap (λ (m : ℕ). many ending part m rest) (left n k lt) ∙ ap (turn (n - (k + 1)) rest) e

  pub ends : (front : List A) (n k : ℕ) (rest : List ℕ) (e : E) (whole : Option (List A × E)) → k < n → ending rest ≡ Some e
      → with_front front (many ending part (n - k) rest) ≡ whole → whole ≡ Some (front, e)
  ends front n k rest e whole lt at inv =
      sym inv ∙ ap (with_front front) (turn_at n k rest (Some e) lt at) ∙ ap (λ (f : List A). some (f, e)) (append-nil front)
    where
      some : List A × E → Option (List A × E)
      some x = Some x

  with_more : (front : List A) (x : A) (found : Option (List A × E)) → with_front front (found >>= λ others. Some (x ∷ others.0, others.1)) ≡ with_front (front ++ x ∷ []) found
  with_more front x (Some found) = ap (λ (f : List A). some (f, found.1)) (sym (append_assoc front (x ∷ []) found.0))
    where
      some : List A × E → Option (List A × E)
      some y = Some y
  with_more front x None = refl

  pub goes_on : (front : List A) (n k : ℕ) (rest : List ℕ) (x : A) (after : List ℕ) (whole : Option (List A × E)) → k < n → ending rest ≡ None
      → part rest ≡ Some (x, after) → with_front front (many ending part (n - k) rest) ≡ whole
      → with_front (front ++ x ∷ []) (many ending part (n - (k + 1)) after) ≡ whole
  goes_on front n k rest x after whole lt at found inv =
      sym (with_more front x (many ending part (n - (k + 1)) after))
      ∙ sym (ap (with_front front) (turn_at n k rest None lt at ∙ ap (more (n - (k + 1))) found)) ∙ inv

  pub fails : (front : List A) (n k : ℕ) (rest : List ℕ) (whole : Option (List A × E)) → k < n → ending rest ≡ None
      → part rest ≡ None → with_front front (many ending part (n - k) rest) ≡ whole → whole ≡ None
  fails front n k rest whole lt at found inv =
      sym inv ∙ ap (with_front front) (turn_at n k rest None lt at ∙ ap (more (n - (k + 1))) found)

  pub exhausted : (front : List A) (n k : ℕ) (rest : List ℕ) (whole : Option (List A × E)) → n ≤ k
      → with_front front (many ending part (n - k) rest) ≡ whole → whole ≡ None
  unfolding many
  exhausted front n k rest whole le inv = sym inv ∙ ap (λ (m : ℕ). with_front front (many ending part m rest)) (none_left n k le)

  same : (found : Option (List A × E)) → with_front [] found ≡ found
  same (Some x) = refl
  same None = refl

  all_left : (n : ℕ) → n - 0 ≡ n
  all_left n = omega arith

  pub starts : (text : List ℕ) → with_front [] (many ending part (suc (length text) - 0) text) ≡ sequence ending part text
  unfolding sequence
  starts text = ap (λ (m : ℕ). with_front [] (many ending part m text)) (all_left (suc (length text))) ∙ same (many ending part (suc (length text)) text)

pub at_end_empty : (text : List ℕ) → length text ≡ 0 → at_end text ≡ Some []
at_end_empty [] e = refl
at_end_empty (c ∷ text) e = absurd (omega arith)

pub at_end_not : (text : List ℕ) → (length text ≡ 0 → ⊥) → at_end text ≡ None
at_end_not [] e = absurd (e refl)
at_end_not (c ∷ text) e = refl
