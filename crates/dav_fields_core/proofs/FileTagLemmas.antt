-- What the tag of a file holds, and what it tells.
use Rattle.std.proofs.Common.{◌≡◌, ℕ, ◌^◌, ◌<◌, Bool, true, false, not, List, [], ◌∷◌, ◌++◌, get_or, Option, Some, Result, Ok, Err, refl, sym, ap, ◌∙◌, arith}
use Rattle.std.specs.Prelude.{decimal, ◌==◌, IfOk, IfErr}
use Rattle.std.specs.Int.{IsInRange}
use Rattle.std.specs.List.{All, AllPass, slice_split}
use Rattle.std.proofs.lemmas.Bool.{and_from, lt-ltb, ne_eqb}
use Rattle.std.proofs.lemmas.Fmt.{decimal_injective}
use Rattle.std.proofs.lemmas.List.Elements.{All-append, All-cons, All-nil, All-get_or, All-from_get_or}
use Rattle.std.proofs.lemmas.List.Folds.{list_any_none}
use Rattle.std.proofs.lemmas.List.Sums.{list_all-from_AllPass}
use Rattle.std.proofs.lemmas.List.Splits.{slice_split_at}
use Rattle.dav_headers_core.specs.declared.davheaders.errors.HeaderError.{HeaderError}
use Rattle.dav_headers_core.specs.declared.davheaders.errors.HeaderError.TheVariants as header
use Rattle.dav_headers_core.specs.HeaderGives.{GivesFirst}
use Rattle.dav_headers_core.specs.Tags.{quote, new_tag, is_weak}
use Rattle.dav_headers_core.proofs.tags.TagLemmas.{spelled_is_tag}
use Rattle.dav_headers_core.specs.UpdateRanges.{is_hyphen, two}
use Rattle.dav_headers_core.proofs.numbers.DashLemmas.{NoDash, just_two}
use Rattle.dav_headers_core.proofs.numbers.NumberLemmas.{decimal_in}
use Rattle.dav_path_core.specs.Fronts.{Path}
use Rattle.dav_files_core.specs.declared.memfs.Kind.{Kind}
use Rattle.dav_files_core.specs.declared.memfs.Kind.TheVariants.{Folder, File}
use Rattle.dav_files_core.specs.Meta.{Meta, meta_at}
use Rattle.dav_files_core.specs.Resources.{Resource, ResourceMap}
use Rattle.dav_fields_core.specs.FileTags.{file_tag, own_tags, standing_known, tag_text}
use Rattle.dav_fields_core.specs.Getting.{tags_by}
use Rattle.dav_fields_core.specs.ListedTags.{is_visible, is_entity_tag}

abbrev is_quote : ℕ → Bool
is_quote b = b == quote

-- digits are neither quotes nor dashes
digits_hold : (digits : List ℕ) → All (IsInRange 48 57) digits → All (λ b. is_quote b ≡ false) digits
digits_hold digits h = All-from_get_or (λ b. is_quote b ≡ false) digits 0 (λ i lt.
    let digit = All-get_or (IsInRange 48 57) digits i 0 lt h in
    ne_eqb (get_or digits i 0) 34 (omega arith))

no_dash : (digits : List ℕ) → All (IsInRange 48 57) digits → NoDash digits
no_dash digits h i lt is_hyphen = let digit = All-get_or (IsInRange 48 57) digits i 0 lt h in absurd (omega arith)

no_quote : (m n : ℕ) → m < 2 ^ 64 → n < 2 ^ 64 → All (λ b. is_quote b ≡ false) (tag_text m n)
no_quote m n small fits =
    All-append (λ b. is_quote b ≡ false) (decimal m) (45 ∷ decimal n) (digits_hold (decimal m) (decimal_in m small))
    (All-cons (λ b. is_quote b ≡ false) 45 (decimal n) refl (digits_hold (decimal n) (decimal_in n fits)))

-- the text makes a tag
pub makes_tag : (m n : ℕ) → m < 2 ^ 64 → n < 2 ^ 64 → new_tag false (tag_text m n) ≡ Some (file_tag m n)
makes_tag m n small fits = rw (list_any_none is_quote (tag_text m n) (no_quote m n small fits)) refl

-- what is told of a text that makes a tag
pub told_ok : {A : Type 0} (result : Result A HeaderError) (view : A → List ℕ) (expected : Option (List ℕ)) (tag : List ℕ) → GivesFirst view result expected → expected ≡ Some tag
    → IfOk result (λ x. view x ≡ tag)
told_ok (Ok x) view expected tag h made = cc
told_ok (Err e) view expected tag h made = tt

pub told_err : {A : Type 0} (result : Result A HeaderError) (view : A → List ℕ) (expected : Option (List ℕ)) (tag : List ℕ) → GivesFirst view result expected → expected ≡ Some tag
    → IfErr result (λ e. e ≡ header.OutOfMemory)
told_err (Ok x) view expected tag h made = tt
told_err (Err header.OutOfMemory) view expected tag h made = refl
told_err (Err header.Invalid) view expected tag h made = absurd (cc)

-- ---- it is read as a tag

digits_seen : (digits : List ℕ) → All (IsInRange 48 57) digits → AllPass is_visible digits
digits_seen digits h = All-from_get_or (λ b. is_visible b ≡ true) digits 0 (λ i lt.
    let digit = All-get_or (IsInRange 48 57) digits i 0 lt h in
    and_from _ _ (lt-ltb 32 (get_or digits i 0) (omega arith)) (ap not (ne_eqb (get_or digits i 0) 127 (omega arith))))

pub is_read : (m n : ℕ) → m < 2 ^ 64 → n < 2 ^ 64 → (is_entity_tag (file_tag m n) ≡ true) × (is_weak (file_tag m n) ≡ false)
is_read m n small fits =
    let P : ℕ → Type 0 = λ b. is_visible b ≡ true in
    let text = All-append P (decimal m) (45 ∷ decimal n) (digits_seen (decimal m) (decimal_in m small))
    (All-cons P 45 (decimal n) refl (digits_seen (decimal n) (decimal_in n fits))) in
    let seen = All-cons P quote (tag_text m n ++ quote ∷ []) refl (All-append P (tag_text m n) (quote ∷ []) text (All-cons P quote [] refl (All-nil P))) in (
      and_from _ _ (spelled_is_tag false (tag_text m n) (list_any_none is_quote (tag_text m n) (no_quote m n small fits)))
          (list_all-from_AllPass is_visible (file_tag m n) seen),
      refl,
    )

-- ---- equal tags have equal numbers

parts_of : (m n : ℕ) → m < 2 ^ 64 → n < 2 ^ 64 → two (slice_split is_hyphen (tag_text m n)) ≡ Some (decimal m, decimal n)
parts_of m n small fits =
    just_two (tag_text m n) (decimal m) (decimal n) refl (no_dash (decimal m) (decimal_in m small)) (no_dash (decimal n) (decimal_in n fits))

-- the text in front of the last quote
in_front : (m n : ℕ) → m < 2 ^ 64 → n < 2 ^ 64 → slice_split is_quote (tag_text m n ++ quote ∷ []) ≡ tag_text m n ∷ [] ∷ []
in_front m n small fits = slice_split_at is_quote (tag_text m n) 34 [] (no_quote m n small fits) refl

same_text : (m n p q : ℕ) → m < 2 ^ 64 → n < 2 ^ 64 → p < 2 ^ 64 → q < 2 ^ 64 → file_tag m n ≡ file_tag p q → tag_text m n ≡ tag_text p q
same_text m n p q a b c d same =
    let behind : (tag_text m n ++ quote ∷ []) ≡ (tag_text p q ++ quote ∷ []) = cc in
    let parted = sym (in_front m n a b) ∙ ap (slice_split is_quote) behind ∙ in_front p q c d in
    cc

pub tells : (m n p q : ℕ) → m < 2 ^ 64 → n < 2 ^ 64 → p < 2 ^ 64 → q < 2 ^ 64 → file_tag m n ≡ file_tag p q → (m ≡ p) × (n ≡ q)
tells m n p q a b c d same =
    let parted = sym (parts_of m n a b) ∙ ap (λ text. two (slice_split is_hyphen text)) (same_text m n p q a b c d same) ∙ parts_of p q c d in
    let pair : (decimal m, decimal n) ≡ (decimal p, decimal q) = cc in (
      decimal_injective m p a c (ap (λ (x : List ℕ × List ℕ). x.0) pair),
      decimal_injective n q b d (ap (λ (x : List ℕ × List ℕ). x.1) pair),
    )

-- ---- the tag of what stands at a path

pub tags_known : (m : ResourceMap) (p : Path) (r : Resource) → tags_by (standing_known m p (meta_at r.node)) ≡ own_tags r
tags_known m p r = by r.node.kind refl
  where
    by : (k : Kind) → r.node.kind ≡ k → tags_by (standing_known m p (meta_at r.node)) ≡ own_tags r
    by Folder is = rw is refl
    by File is = rw is refl
