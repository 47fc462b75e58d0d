-- The search for a mark.
use Rattle.std.proofs.Common.{◌≡◌, refl, sym, ap, ◌∙◌, ℕ, ◌+◌, ◌<◌, arith, true, false, cond, nat_eq, List, [], ◌∷◌, ◌++◌, take, drop, length, get_or, None, Some}
use Rattle.std.specs.List.{starts_with}
use Rattle.std.proofs.lemmas.List.{drop_more, take_more, drop-drop, length-drop, append_assoc, append-nil}
use Rattle.dav_xml_core.specs.Scanning.{Found, until, with_char}
use Rattle.dav_xml_core.proofs.Fronts.{behind_front}

there : (mark text : List ℕ) → 0 < length text → starts_with nat_eq text mark ≡ true → until mark text ≡ Some ([], drop (length mark) text)
there mark [] lt h = absurd (omega arith)
there mark (c ∷ text) lt h = ap (λ b. cond b (Some ([], drop (length mark) (c ∷ text))) (with_char c (until mark text))) h

not_there : (mark : List ℕ) (c : ℕ) (text : List ℕ) → starts_with nat_eq (c ∷ text) mark ≡ false → until mark (c ∷ text) ≡ with_char c (until mark text)
not_there mark c text h = ap (λ b. cond b (Some ([], drop (length mark) (c ∷ text))) (with_char c (until mark text))) h

behind_char : (front : List ℕ) (c : ℕ) (found : Found (List ℕ)) → behind_front front (with_char c found) ≡ behind_front (front ++ c ∷ []) found
behind_char front c (Some found) = ap (λ (f : List ℕ). some (f, found.1)) (sym (append_assoc front (c ∷ []) found.0))
  where
    some : List ℕ × List ℕ → Found (List ℕ)
    some x = Some x
behind_char front c None = refl

pub found_at : (mark text : List ℕ) (i : ℕ) (whole : Found (List ℕ)) → i < length text → starts_with nat_eq (drop i text) mark ≡ true
    → behind_front (take i text) (until mark (drop i text)) ≡ whole → Some (take i text, drop (i + length mark) text) ≡ whole
found_at mark text i whole lt h inv =
    sym (ap (behind_front (take i text)) (there mark (drop i text) (omega (arith, length-drop i text)) h)
    ∙ ap (λ (f : List ℕ). some (f, drop (length mark) (drop i text))) (append-nil (take i text))
    ∙ ap (λ (r : List ℕ). some (take i text, r)) (drop-drop (length mark) i text)) ∙ inv
  where
    some : List ℕ × List ℕ → Found (List ℕ)
    some x = Some x

pub goes_on : (mark text : List ℕ) (i : ℕ) (whole : Found (List ℕ)) → i < length text → starts_with nat_eq (drop i text) mark ≡ false
    → behind_front (take i text) (until mark (drop i text)) ≡ whole → behind_front (take (i + 1) text) (until mark (drop (i + 1) text)) ≡ whole
goes_on mark text i whole lt h inv =
    let c = get_or text i 0 in
    let cell : drop i text ≡ c ∷ drop (i + 1) text = drop_more text i 0 lt in
    let miss : starts_with nat_eq (c ∷ drop (i + 1) text) mark ≡ false = ap (λ (t : List ℕ). starts_with nat_eq t mark) (sym cell) ∙ h in
    ap (λ (f : List ℕ). behind_front f (until mark (drop (i + 1) text))) (take_more text i 0 lt)
    ∙ sym (behind_char (take i text) c (until mark (drop (i + 1) text)))
    ∙ sym (ap (behind_front (take i text)) (ap (until mark) cell ∙ not_there mark c (drop (i + 1) text) miss)) ∙ inv
