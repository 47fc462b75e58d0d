-- The last extension of a name, and the first entry of a table that has it.
use Rattle.std.proofs.Common.{◌≡◌, ◌∙◌, Bool, true, false, ℕ, suc, ◌<◌, ◌≤◌, ◌+◌, ◌-◌, List, [], ◌∷◌, ◌++◌, take, drop, length, get_or, map, Option, None, Some, refl, ap, sym, subst, arith, length-drop}
use Rattle.std.proofs.lemmas.List.{take_all}
use Rattle.std.proofs.lemmas.Bool.{true≢false}
use Rattle.std.proofs.lemmas.Slice.Eq.{bytes_eq-Decides}
use Rattle.std.proofs.Math.Seq.{drop-cons, split_at}
use Rattle.std.specs.Bool.{IsTrue}
use Rattle.std.specs.Char.{to_ascii_lowercase}
use Rattle.std.specs.Prelude.{◌↔◌, if◌then◌else◌, bytes_eq}
use Rattle.std.specs.List.{list_all}
use Rattle.std.proofs.lemmas.Bool.{and_parts}
use Rattle.std.proofs.lemmas.List.Sums.{AllPass-from_list_all}
use Rattle.http_header.specs.FieldValue.{IsFieldValue}
use Rattle.http_header.specs.Token.{is_value_byte}
use Rattle.dav_fields_core.specs.ContentTypes.{TypeEntry, content_type, extension, other_type, table, type_in}

-- what stands in front doesn't matter
extension_behind : (front back text : List ℕ) → extension back ≡ Some text → extension (front ++ back) ≡ Some text
extension_behind [] back text h = h
extension_behind (b ∷ front) back text h = rw (extension_behind front back text h) refl

-- the last dot, and what stands behind it
pub last_dot : (front back : List ℕ) → extension back ≡ None → extension (front ++ (46 ∷ back)) ≡ Some back
last_dot front back h = extension_behind front (46 ∷ back) back (rw h refl)

pub last_dot_at : (name : List ℕ) (place : ℕ) → 0 < place → place ≤ length name → get_or name (place - 1) 0 ≡ 46 → extension (drop place name) ≡ None
    → Some (take (length name - (place - 1 + 1)) (drop (place - 1 + 1) name)) ≡ extension name
last_dot_at name place some within dot behind =
    let next : place - 1 + 1 ≡ place = omega arith in
    let inside : place - 1 < length name = omega arith in
    let same : suc (place - 1) ≡ place = omega arith in
    let all : take (length name - place) (drop place name) ≡ drop place name = take_all (length name - place) (drop place name) (omega (arith, length-drop place name)) in
    let split = split_at name (place - 1) 0 inside in
    let parts : name ≡ take (place - 1) name ++ (46 ∷ drop place name) =
    split ∙ ap (λ b. take (place - 1) name ++ (b ∷ drop (suc (place - 1)) name)) dot ∙ ap (λ n. take (place - 1) name ++ (46 ∷ drop n name)) same in
    rw next (ap Some all ∙ sym (ap extension parts ∙ last_dot (take (place - 1) name) (drop place name) behind))

-- ---- tables

chosen : {A : Type 0} (r : Bool) (a b : A) → r ≡ true → (if r then a else b) ≡ a
chosen r a b h = rw h refl

passed : {A : Type 0} (r : Bool) (a b : A) → (r ≡ true → ⊥) → (if r then a else b) ≡ b
passed true a b h = absurd (h refl)
passed false a b h = refl

module _ {X : Type 0} (f : X → TypeEntry) (table : List X) (place : ℕ) (d : X) (text known : List ℕ) (test : Bool) (inside : place < length table)
    (is_known : known ≡ (f (get_or table place d)).0)
    (tests : IsTrue test ↔ (map to_ascii_lowercase text ≡ map to_ascii_lowercase known)) where
  -- the entry at a place has the extension
  pub entry_found : test ≡ true → Some (f (get_or table place d)).1 ≡ type_in (map f (drop place table)) text
  entry_found holds =
      let entry = f (get_or table place d) in
      let low = map to_ascii_lowercase in
      let same : low text ≡ low entry.0 = tests.0 holds ∙ ap low is_known in
      sym (ap (λ xs. type_in (map f xs) text) (drop-cons table place d inside)
      ∙ chosen (bytes_eq (low text) (low entry.0)) (Some entry.1) _ ((bytes_eq-Decides (low text) (low entry.0)).1 same))

  -- it has another one
  pub entry_passed : test ≡ false → type_in (map f (drop (place + 1) table)) text ≡ type_in (map f (drop place table)) text
  entry_passed fails =
      let entry = f (get_or table place d) in
      let low = map to_ascii_lowercase in
      let next : place + 1 ≡ suc place = omega arith in
      rw next (sym (ap (λ xs. type_in (map f xs) text) (drop-cons table place d inside)
      ∙ passed (bytes_eq (low text) (low entry.0)) (Some entry.1) _
      (λ same. true≢false (sym (tests.1 ((bytes_eq-Decides (low text) (low entry.0)).0 same ∙ sym (ap low is_known))) ∙ fails))))

-- ---- what a field can hold

abbrev held : List ℕ → Bool
held text = list_all is_value_byte text

table_held : list_all (λ (entry : TypeEntry). held entry.1) table ≡ true
table_held = refl

found_held : (entries : List TypeEntry) (text known : List ℕ) → list_all (λ entry. held entry.1) entries ≡ true → type_in entries text ≡ Some known → held known ≡ true
found_held [] text known h is = absurd (cc)
found_held (entry ∷ entries) text known h is =
    let p = and_parts (held entry.1) (list_all (λ e. held e.1) entries) h in
    by (bytes_eq (map to_ascii_lowercase text) (map to_ascii_lowercase entry.0)) p.0 (found_held entries text known p.1) is
  where
    by : (b : Bool) → held entry.1 ≡ true → (type_in entries text ≡ Some known → held known ≡ true) → (if b then Some entry.1 else type_in entries text) ≡ Some known → held known ≡ true
    by true one others found = let same : entry.1 ≡ known = cc in subst (λ text. held text ≡ true) same one
    by false one others found = others found

-- the type of a file is one
pub type_held : (name : List ℕ) → IsFieldValue (content_type name)
type_held name = AllPass-from_list_all is_value_byte (content_type name) (by (extension name))
  where
    known : (o : Option (List ℕ)) → ((text : List ℕ) → o ≡ Some text → held text ≡ true) → held (elim o [ None ↦ other_type | Some text ↦ text ]) ≡ true
    known None h = refl
    known (Some text) h = h text refl

    by : (o : Option (List ℕ)) → held (elim o [ None ↦ other_type | Some text ↦ elim (type_in table text) [ None ↦ other_type | Some known ↦ known ] ]) ≡ true
    by None = refl
    by (Some text) = known (type_in table text) (λ found is. found_held table text found table_held is)
