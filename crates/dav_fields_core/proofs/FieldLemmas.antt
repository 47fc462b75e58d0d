-- Which bytes a field can hold, and a field that is added.
use Rattle.std.proofs.Common.{◌≡◌, ◌⊎◌, inl, inr, ℕ, ◌^◌, ◌<◌, Bool, true, false, not, ◌&&◌, ◌||◌, List, [], ◌∷◌, ◌++◌, map, get_or, refl, sym, ◌∙◌, Result, Ok, Err, ap, subst, arith}
use Rattle.std.specs.Prelude.{filter, codes, bytes_eq, decimal, nat_le, ◌==◌, IsTrue, OnOk}
use Rattle.std.specs.Int.{IsInRange}
use Rattle.std.proofs.lemmas.Bool.{and_from, le-leb, ne_eqb}
use Rattle.std.proofs.lemmas.List.{append_assoc}
use Rattle.std.proofs.lemmas.List.Elements.{All-append, All-cons, All-nil, All-get_or, All-from_get_or, filter-append}
use Rattle.std.proofs.lemmas.List.Sums.{AllPass-from_list_all}
use Rattle.http_header.specs.FieldValue.{FieldValue, IsFieldValue, plain_value}
use Rattle.http_header.specs.Token.{is_value_byte, space, del}
use Rattle.dav_headers_core.specs.Tags.{quote}
use Rattle.dav_headers_core.proofs.numbers.NumberLemmas.{decimal_in}
use Rattle.dav_fields_core.specs.Fields.{Field}
use Rattle.dav_fields_core.specs.FileTags.{file_tag, tag_text}
use Rattle.dav_fields_core.specs.Ranges.{unsatisfied_text}

-- ---- what a field can hold

abbrev Holds : ℕ → Type 0
Holds b = IsTrue (is_value_byte b)

digit_held : (b : ℕ) → IsInRange 48 57 b → is_value_byte b ≡ true
digit_held b h =
    ap (λ tab. tab || (nat_le space b && not (b == del))) (ne_eqb b 9 (omega (arith, h)))
    ∙ and_from _ _ (le-leb 32 b (omega (arith, h))) (ap not (ne_eqb b 127 (omega (arith, h))))

digits_held : (n : ℕ) → n < 2 ^ 64 → IsFieldValue (decimal n)
digits_held n fits = All-from_get_or Holds (decimal n) 0 (λ i lt.
    digit_held (get_or (decimal n) i 0) (All-get_or (IsInRange 48 57) (decimal n) i 0 lt (decimal_in n fits)))

pub tag_held : (m n : ℕ) → m < 2 ^ 64 → n < 2 ^ 64 → IsFieldValue (file_tag m n)
tag_held m n small fits =
    let text : IsFieldValue (tag_text m n) = All-append Holds (decimal m) (45 ∷ decimal n) (digits_held m small) (All-cons Holds 45 (decimal n) refl (digits_held n fits)) in
    All-cons Holds quote (tag_text m n ++ quote ∷ []) refl (All-append Holds (tag_text m n) (quote ∷ []) text (All-cons Holds quote [] refl (All-nil Holds)))

pub part_held : (first last size : ℕ) → first < 2 ^ 64 → last < 2 ^ 64 → size < 2 ^ 64
    → IsFieldValue (codes "bytes " ++ (decimal first ++ (45 ∷ (decimal last ++ (47 ∷ decimal size)))))
part_held first last size a b c =
    let behind = All-append Holds (decimal last) (47 ∷ decimal size) (digits_held last b) (All-cons Holds 47 (decimal size) refl (digits_held size c)) in
    let numbers = All-append Holds (decimal first) (45 ∷ (decimal last ++ (47 ∷ decimal size))) (digits_held first a)
    (All-cons Holds 45 (decimal last ++ (47 ∷ decimal size)) refl behind) in
    All-append Holds (codes "bytes ") (decimal first ++ (45 ∷ (decimal last ++ (47 ∷ decimal size)))) (AllPass-from_list_all is_value_byte (codes "bytes ") refl) numbers

pub unsatisfied_held : (size : ℕ) → size < 2 ^ 64 → IsFieldValue (unsatisfied_text size)
unsatisfied_held size a = All-append Holds (codes "bytes */") (decimal size) (AllPass-from_list_all is_value_byte (codes "bytes */") refl) (digits_held size a)

-- a field that is added, by its name and its value
pub field_added : {A E : Type 0} (result : Result A E) (old new : List Field) (name bytes wanted value : List ℕ)
    → OnOk result (new ≡ old ++ (name, bytes) ∷ []) → name ≡ wanted → bytes ≡ value → OnOk result (new ≡ old ++ (wanted, value) ∷ [])
field_added (Ok x) old new name bytes wanted value added named is = added ∙ ap (λ n. old ++ (n, bytes) ∷ []) named ∙ ap (λ b. old ++ (wanted, b) ∷ []) is
field_added (Err e) old new name bytes wanted value added named is = tt

pub constant_added : (old new : List Field) (name : List ℕ) (value : FieldValue) (wanted bytes : List ℕ)
    → new ≡ old ++ (name, value.bytes) ∷ [] → name ≡ wanted → value ≡ plain_value bytes → new ≡ old ++ (wanted, bytes) ∷ []
constant_added old new name value wanted bytes added named is =
    added ∙ ap (λ n. old ++ (n, value.bytes) ∷ []) named ∙ ap (λ (v : FieldValue). old ++ (wanted, v.bytes) ∷ []) is

-- fields that are added one after another
pub both_added : (old mid new first second : List Field) → mid ≡ old ++ first → new ≡ mid ++ second → new ≡ old ++ (first ++ second)
both_added old mid new first second one two = two ∙ ap (λ fields. fields ++ second) one ∙ append_assoc old first second
