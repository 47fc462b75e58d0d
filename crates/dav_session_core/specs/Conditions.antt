-- Whether an `If` holds (RFC 4918 sections 10.4.3 and 10.4.4), by the map and the locks of a state.
use Rattle.std.specs.Prelude.{◌≡◌, ◌⊎◌, ℕ, Bool, true, false, not, ◌&&◌, bytes_eq, if◌then◌else◌, List, [], ◌∷◌, map, Option, None, Some}
use Rattle.std.specs.List.{AllByRecursion, list_all, list_any}
use Rattle.url.specs.Parts.{Parts}
use Rattle.dav_path_core.specs.Fronts.{Path}
use Rattle.dav_headers_core.specs.IfBytes.{Item, Token, Tag, Condition}
use Rattle.dav_headers_core.specs.IfValues.{Located}
use Rattle.dav_locks_core.specs.Locks.{covers}
use Rattle.dav_guarded_core.specs.Step.{State}
use Rattle.dav_fields_core.specs.declared.listed_tags.Comparison.TheVariants.{Strong}
use Rattle.dav_fields_core.specs.FileTags.{standing_at}
use Rattle.dav_fields_core.specs.Preconditions.{has_tag}
use Rattle.dav_fields_core.specs.TaggedLists.{Base, SpeaksOf, spread_tags}

-- ---- a condition

-- a lock with the token covers the path, whoever asks, and whether anything stands there
abbrev pub has_token : State → Path → List ℕ → Bool
has_token s p token = list_any (λ l. bytes_eq l.token token && covers l p) s.locks

-- what a list speaks of has the item; what is no path of the server has neither locks nor tags
abbrev pub has_item : State → Option Path → Item → Bool
has_item s None item = false
has_item s (Some p) (Token token) = has_token s p token
has_item s (Some p) (Tag tag) = has_tag Strong (standing_at s.map p) tag

-- `Not` turns it round
abbrev pub condition_holds : State → Option Path → Condition → Bool
condition_holds s at c = if c.negated then not (has_item s at c.item) else has_item s at c.item

-- ---- lists

-- all conditions of a list hold
abbrev pub conditions_hold : State → Option Path → List Condition → Bool
conditions_hold s at conditions = list_all (condition_holds s at) conditions

-- whether a list holds, of the path that it speaks of
abbrev pub ListIs : State → Base → Path → Bool → Located → Type 0
ListIs s base here holds l = (at : Option Path) × SpeaksOf base here l.tag at × (conditions_hold s at l.conditions ≡ holds)

abbrev pub OneHolds : State → Base → Path → List Located → Type 0
OneHolds s base here [] = ⊥
OneHolds s base here (l ∷ lists) = ListIs s base here true l ⊎ OneHolds s base here lists

abbrev pub NoneHolds : State → Base → Path → List Located → Type 0
NoneHolds s base here lists = AllByRecursion (ListIs s base here false) lists

abbrev pub ListsAre : State → Base → Path → List Located → Bool → Type 0
ListsAre s base here lists true = OneHolds s base here lists
ListsAre s base here lists false = NoneHolds s base here lists

-- an `If` holds where one of its lists does
abbrev pub IfIs : State → Base → Path → List Located → Bool → Type 0
IfIs s base here lists holds = ListsAre s base here (spread_tags lists) holds

-- ---- the lists as section 10.4.2 puts them together

-- a tag, and the lists behind it, of which there is one at least
pub record Production : Type 0 where
  pub tag : Parts
  pub first : List Condition
  pub more : List (List Condition)

abbrev pub untagged_list : List Condition → Located
untagged_list conditions = record { tag = None; conditions = conditions }

abbrev pub lists_of : Production → List Located
lists_of production = record { tag = Some production.tag; conditions = production.first } ∷ map untagged_list production.more

-- one of its lists holds
abbrev pub ProductionIs : State → Base → Path → Bool → Production → Type 0
ProductionIs s base here holds production =
    (at : Option Path) × SpeaksOf base here (Some production.tag) at × (list_any (conditions_hold s at) (production.first ∷ production.more) ≡ holds)

abbrev pub OneProduction : State → Base → Path → List Production → Type 0
OneProduction s base here [] = ⊥
OneProduction s base here (production ∷ productions) = ProductionIs s base here true production ⊎ OneProduction s base here productions

-- one of the productions holds
abbrev pub ProductionsAre : State → Base → Path → List Production → Bool → Type 0
ProductionsAre s base here productions true = OneProduction s base here productions
ProductionsAre s base here productions false = AllByRecursion (ProductionIs s base here false) productions
