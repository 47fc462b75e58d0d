-- The grammar of a list of entity tags (RFC 9110 sections 5.6.1 and 8.8.3).
use Rattle.std.specs.Prelude.{◌≡◌, ◌⊎◌, ℕ, true, List, [], ◌∷◌, ◌++◌}
use Rattle.std.specs.Char.{is_ascii_whitespace}
use Rattle.std.specs.List.{AllByRecursion, AllPass}
use Rattle.dav_headers_core.specs.Tags.{IsTag}
use Rattle.dav_fields_core.specs.ListedTags.{is_visible}

abbrev pub IsBlank : List ℕ → Type 0
IsBlank bytes = AllByRecursion (λ b. is_ascii_whitespace b ≡ true) bytes

-- nothing, or a tag of visible bytes
abbrev pub IsElement : List ℕ → Type 0
IsElement element = (element ≡ []) ⊎ (IsTag element × AllPass is_visible element)

-- the element with white space round it
pub record IsPadded (text element : List ℕ) : Type 0 where
  pub left : List ℕ
  pub right : List ℕ
  pub before : IsBlank left
  pub after : IsBlank right
  pub is_element : IsElement element
  pub parts : text ≡ left ++ (element ++ right)

-- elements with commas between them
abbrev pub ReadsAsTags : List ℕ → List (List ℕ) → Type 0
ReadsAsTags whole [] = ⊥
ReadsAsTags whole (e ∷ []) = IsPadded whole e
ReadsAsTags whole (e ∷ f ∷ more) = (front rest : List ℕ) × (whole ≡ front ++ 44 ∷ rest) × IsPadded front e × ReadsAsTags rest (f ∷ more)
