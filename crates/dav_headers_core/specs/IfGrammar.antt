-- The grammar of the `If` header (RFC 4918 section 10.4), one definition for each row of the table in docs/FORMATS.md.
-- `XAt whole x rest` says that `whole` is a spelling of `x`, and then `rest`.
use Rattle.std.specs.Prelude.{◌≡◌, ◌≢◌, ◌⊎◌, ◌==◌, ℕ, Bool, true, false, List, [], ◌∷◌, ◌++◌, codes, Option, None, Some, IsUtf8}
use Rattle.std.specs.List.{AllByRecursion, list_any}
use Rattle.dav_headers_core.specs.CommaPieces.{is_blank}
use Rattle.dav_headers_core.specs.Tags.{IsTag}
use Rattle.dav_headers_core.specs.IfBytes.{colon, is_word_byte, ends_word, odd_quotes, Item, Token, Tag, Condition, Group}

-- blanks or nothing, and then the rest
pub record SkipsTo (whole rest : List ℕ) : Type 0 where
  pub blanks : List ℕ
  pub each : AllByRecursion (λ b. is_blank b ≡ true) blanks
  pub parts : whole ≡ blanks ++ rest

-- a text that a closing byte may follow: no blank, an even number of quotes, and each closing byte in it after an odd number
-- of quotes
pub record Enclosed (closing : ℕ) (text : List ℕ) : Type 0 where
  pub no_blank : AllByRecursion (λ b. is_blank b ≡ false) text
  pub even : odd_quotes text ≡ false
  pub inside : (before after : List ℕ) → text ≡ before ++ closing ∷ after → odd_quotes before ≡ true

-- `opening`, the text, `closing`
pub record Between (opening closing : ℕ) (whole text rest : List ℕ) : Type 0 where
  pub parts : whole ≡ opening ∷ text ++ closing ∷ rest
  pub enclosed : Enclosed closing text
  pub utf8 : IsUtf8 text

abbrev pub HoldsColon : List ℕ → Type 0
HoldsColon text = list_any (λ b. b == colon) text ≡ true

-- what stands right after a word
abbrev pub EndsWord : List ℕ → Type 0
EndsWord [] = ⊥
EndsWord (b ∷ bytes) = ends_word b ≡ true

pub record WordAt (whole text rest : List ℕ) : Type 0 where
  pub parts : whole ≡ text ++ rest
  pub each : AllByRecursion (λ b. is_word_byte b ≡ true) text
  pub utf8 : IsUtf8 text
  pub colon : HoldsColon text
  pub no_not : (more : List ℕ) → text ≢ codes "Not" ++ more
  pub ends : EndsWord rest

-- a token in `<..>` or as a word, or a tag in `[..]`
abbrev pub ItemAt : List ℕ → Item → List ℕ → Type 0
ItemAt whole (Token text) rest = (Between 60 62 whole text rest × HoldsColon text) ⊎ WordAt whole text rest
ItemAt whole (Tag text) rest = Between 91 93 whole text rest × IsTag text

-- `Not` and blanks, or nothing
abbrev pub NotAt : Bool → List ℕ → List ℕ → Type 0
NotAt true whole rest = (after : List ℕ) × (whole ≡ codes "Not" ++ after) × SkipsTo after rest
NotAt false whole rest = whole ≡ rest

abbrev pub ConditionAt : List ℕ → Condition → List ℕ → Type 0
ConditionAt whole condition rest = (at : List ℕ) × NotAt condition.negated whole at × ItemAt at condition.item rest

-- the conditions, and then `)`
abbrev pub ConditionsAt : List ℕ → List Condition → List ℕ → Type 0
ConditionsAt whole [] rest = SkipsTo whole (41 ∷ rest)
ConditionsAt whole (condition ∷ conditions) rest =
    (at next : List ℕ) × SkipsTo whole at × ConditionAt at condition next × ConditionsAt next conditions rest

-- `(`, one or more conditions, `)`
pub record ListAt (whole : List ℕ) (conditions : List Condition) (rest : List ℕ) : Type 0 where
  pub inner : List ℕ
  pub parts : whole ≡ 40 ∷ inner
  pub some : conditions ≢ []
  pub conditions_at : ConditionsAt inner conditions rest

-- `<..>`, or nothing
abbrev pub ResourceTagAt : List ℕ → Option (List ℕ) → List ℕ → Type 0
ResourceTagAt whole None rest = whole ≡ rest
ResourceTagAt whole (Some text) rest = Between 60 62 whole text rest

abbrev pub GroupAt : List ℕ → Group → List ℕ → Type 0
GroupAt whole group rest =
    (after at : List ℕ) × ResourceTagAt whole group.tag after × SkipsTo after at × ListAt at group.conditions rest

-- groups, with blanks before, between and after
abbrev pub Groups : List ℕ → List Group → Type 0
Groups whole [] = SkipsTo whole []
Groups whole (group ∷ groups) =
    (at next : List ℕ) × SkipsTo whole at × GroupAt at group next × Groups next groups

-- all of the bytes, read as one or more groups
pub record IfText (bytes : List ℕ) (groups : List Group) : Type 0 where
  pub some : groups ≢ []
  pub groups_at : Groups bytes groups
