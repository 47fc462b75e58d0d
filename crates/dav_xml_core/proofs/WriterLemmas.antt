-- The end of an element that is written.
use Rattle.std.proofs.Common.{◌≡◌, ap, ◌∙◌, ℕ, List, [], ◌∷◌, ◌++◌, Option}
use Rattle.std.specs.Prelude.{codes}
use Rattle.dav_xml_core.specs.Optional.{choose}
use Rattle.dav_xml_core.specs.Reading.{last_of}
use Rattle.dav_xml_core.specs.Writing.{Writing, with_end}
use Rattle.dav_xml_core.proofs.BuilderLemmas.{last_pushed}

abbrev pub writing : List ℕ → List ℕ → List (List ℕ) → Writing
writing first bytes begun = record { first = first; bytes = bytes; begun = begun }

abbrev ended : List ℕ → List ℕ → Option (List (List ℕ) × List ℕ) → Writing → Writing
ended first bytes last otherwise = choose last (λ found. writing first (bytes ++ codes "</" ++ found.1 ++ codes ">") found.0) otherwise

pub end_of : (first bytes : List ℕ) (begun before : List (List ℕ)) (name : List ℕ) → begun ≡ before ++ name ∷ []
    → with_end (writing first bytes begun) ≡ writing first (bytes ++ codes "</" ++ name ++ codes ">") before
unfolding with_end
end_of first bytes begun before name e = ap (λ (all : List (List ℕ)). ended first bytes (last_of all) (writing first bytes all)) e ∙ ap (λ o. ended first bytes o (writing first bytes (before ++ name ∷ []))) (last_pushed before name)
