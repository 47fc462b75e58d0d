-- Values that were written.
use Rattle.std.proofs.Common.{◌≡◌, refl, ap, ◌∙◌, ℕ, arith, Bool, true, false, not, ◌||◌, List, [], ◌∷◌, ◌++◌, None, Some, Result, Ok, Err}
use Rattle.std.specs.Prelude.{IfOk, IfErr, IsSome}
use Rattle.std.specs.Prelude.{codes}
use Rattle.std.specs.List.{list_any, list_all, flat_map}
use Rattle.std.proofs.lemmas.List.Folds.{list_any-append}
use Rattle.dav_headers_core.specs.CommaPieces.{joined_by_commas}
use Rattle.std.proofs.lemmas.Bool.{and_parts, or_from}
use Rattle.std.proofs.lemmas.Bool.Decides.{nat_tests}
use Rattle.http_header.specs.FieldValue.{FieldValue, plain_value}
use Rattle.dav_headers_core.specs.declared.davheaders.errors.HeaderError.{HeaderError}
use Rattle.dav_headers_core.specs.declared.davheaders.errors.HeaderError.TheVariants.{Invalid, OutOfMemory}
use Rattle.dav_headers_core.specs.HeaderGives.{GivesFirst}
use Rattle.dav_headers_core.specs.Optional.{when}
use Rattle.dav_headers_core.specs.Values.{is_text_byte, is_control, value_of_text}

when_is : {A : Type 0} (test : Bool) (x y : A) → when test x ≡ Some y → y ≡ x
when_is true x y e = cc
when_is false x y e = absurd cc

-- what holds of a text's value holds of the value that was written
pub of_written : (P : FieldValue → Type 0) (r : Result FieldValue HeaderError) (text : List ℕ) → GivesFirst (λ value. value) r (value_of_text text) → P (plain_value text) → IfOk r P
of_written P (Ok value) text gives holds = rw (when_is (not (list_any is_control text)) (plain_value text) value gives) holds
of_written P (Err e) text gives holds = tt

-- ---- a text that is read is written, unless memory runs out

control_no_text : (b : ℕ) → is_text_byte b ≡ true → is_control b ≡ false
control_no_text b h = grind (arith, nat_tests)

no_control : (text : List ℕ) → list_all is_text_byte text ≡ true → list_any is_control text ≡ false
no_control [] h = refl
no_control (b ∷ text) h =
    let parts = and_parts (is_text_byte b) (list_all is_text_byte text) h in
    or_from (is_control b) (list_any is_control text) (control_no_text b parts.0) (no_control text parts.1)

pub is_written : (text : List ℕ) → list_all is_text_byte text ≡ true → IsSome (value_of_text text)
is_written text visible = rw (no_control text visible) refl

pub memory_alone : (r : Result FieldValue HeaderError) (text : List ℕ) → GivesFirst (λ value. value) r (value_of_text text) → list_all is_text_byte text ≡ true → IfErr r (λ e. e ≡ OutOfMemory)
memory_alone (Ok value) text gives visible = tt
memory_alone (Err OutOfMemory) text gives visible = refl
memory_alone (Err Invalid) text gives visible = absurd (some_not_none (rw (no_control text visible) at gives))
  where
    some_not_none : Some (plain_value text) ≡ None → ⊥
    some_not_none e = absurd cc

-- ---- texts that are joined

rest_controls : (texts : List (List ℕ)) → list_any is_control (flat_map (λ text. codes ", " ++ text) texts) ≡ list_any (λ text. list_any is_control text) texts
rest_controls [] = refl
rest_controls (text ∷ texts) =
    list_any-append is_control text (flat_map (λ text. codes ", " ++ text) texts) ∙ ap (λ (b : Bool). list_any is_control text || b) (rest_controls texts)

pub joined_controls : (texts : List (List ℕ)) → list_any is_control (joined_by_commas texts) ≡ list_any (λ text. list_any is_control text) texts
joined_controls [] = refl
joined_controls (text ∷ texts) =
    list_any-append is_control text (flat_map (λ text. codes ", " ++ text) texts) ∙ ap (λ (b : Bool). list_any is_control text || b) (rest_controls texts)
