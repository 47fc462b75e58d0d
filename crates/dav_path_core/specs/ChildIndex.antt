-- What a contract sees of a `ChildIndex`: for some folders the names of their children, with their numbers (own).
use Rattle.std.specs.Prelude.{◌≡◌, ℕ, nat_eq, Bool, Option, Some, None}
use Rattle.std.specs.Option.{option_map}
use Rattle.std.specs.Ordering.{nat_cmp}
use Rattle.std.specs.Coded.{Coded, coded_ℕ, coded_list}
use Rattle.std.specs.Cmp.Lexicographic.{pointwise}
use Rattle.std.specs.FinMap.{FinMap, get, insert, remove, code}
use Rattle.dav_path_core.specs.Fronts.{Segment, segment_cmp}
use Rattle.dav_path_core.specs.Keyed.{Keyed, child}

-- the numbers of a folder's children by their names
abbrev pub NumbersByName : Type 0
NumbersByName = FinMap segment_cmp ℕ

-- the names of the children of some folders, by the folders' numbers
abbrev pub Index : Type 0
Index = FinMap nat_cmp NumbersByName

-- the codes that a model needs of its value
abbrev pub names_code : Coded NumbersByName
names_code = code (coded_list coded_ℕ) coded_ℕ

abbrev pub index_code : Coded Index
index_code = code coded_ℕ names_code

-- what the index says of a name in a folder: nothing where it does not know the folder, else the number or none
abbrev pub index_answer : Index → ℕ → Segment → Option (Option ℕ)
index_answer ix p s = option_map (λ names. get names s) (get ix p)

-- whether a key is that name
abbrev pub is_key_named : Segment → Segment → Bool
is_key_named s k = pointwise nat_eq k s

-- of each folder the index says nothing, or of each name which child has it
abbrev pub IsIndex : {D : Type 0} → Keyed Segment D → Index → Type 0
IsIndex t ix = (p : ℕ) (s : Segment) (o : Option ℕ) → index_answer ix p s ≡ Some o → o ≡ child (is_key_named s) t p

-- ---- what the calls make of it
abbrev pub noted_at : Index → ℕ → Segment → ℕ → Option NumbersByName → Index
noted_at ix p s n None = ix
noted_at ix p s n (Some names) = insert ix p (insert names s n)

-- a name is added to a folder that the index knows
abbrev pub with_noted : Index → ℕ → Segment → ℕ → Index
with_noted ix p s n = noted_at ix p s n (get ix p)

abbrev pub forgotten_at : Index → ℕ → Segment → Option NumbersByName → Index
forgotten_at ix p s None = ix
forgotten_at ix p s (Some names) = insert ix p (remove names s)

-- a name is taken out of a folder that the index knows
abbrev pub without_noted : Index → ℕ → Segment → Index
without_noted ix p s = forgotten_at ix p s (get ix p)
