-- Parts one behind the other, up to an end.
use Rattle.std.specs.Prelude.{ℕ, zero, suc, List, [], ◌∷◌, length, Option, None, Some}
use Rattle.dav_xml_core.specs.Optional.{◌>>=◌, choose}
use Rattle.dav_xml_core.specs.Scanning.{Found}

-- at most so many parts, and what the end gives
unfoldable pub many : {A E : Type 0} → (List ℕ → Option E) → (List ℕ → Found A) → ℕ → List ℕ → Option (List A × E)
many ending part zero text = None
many ending part (suc n) text =
    choose (ending text) (λ e. Some ([], e)) (
    part text >>= λ first. many ending part n first.1 >>= λ others. Some (first.0 ∷ others.0, others.1))

-- the parts up to the end; each takes a character, so there are no more than characters
unfoldable pub sequence : {A E : Type 0} → (List ℕ → Option E) → (List ℕ → Found A) → List ℕ → Option (List A × E)
sequence ending part text = many ending part (suc (length text)) text

-- the end of the text
abbrev pub at_end : List ℕ → Option (List ℕ)
at_end [] = Some []
at_end (c ∷ text) = None

-- the parts of the whole text
abbrev pub all_of : {A : Type 0} → (List ℕ → Found A) → List ℕ → Option (List A)
all_of part text = sequence at_end part text >>= λ found. Some found.0
