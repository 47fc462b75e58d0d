-- Names that were found, and a tree of them.
use Rattle.std.proofs.Common.{◌≡◌, refl, sym, ap, ◌∙◌, ℕ, Bool, true, false, ◌&&◌, ◌||◌, not, cond, List, [], ◌∷◌, ◌++◌, Ordering, Less, Equal, Greater}
use Rattle.std.specs.Prelude.{bytes_eq}
use Rattle.std.specs.Ordering.{nat_cmp, ordering_then, is_eq}
use Rattle.std.specs.Cmp.Lexicographic.{slice_cmp}
use Rattle.std.specs.List.{list_any}
use Rattle.std.proofs.lemmas.Bool.{false≢true}
use Rattle.std.proofs.lemmas.Bool.Decides.{same_from_decides}
use Rattle.std.proofs.lemmas.Map.Text.{is_eq-slice_cmp}
use Rattle.std.proofs.lemmas.List.Folds.{list_any-append}
use Rattle.std.proofs.lemmas.Slice.Eq.{bytes_eq-Decides}
use Rattle.dav_xml_core.specs.Documents.{Name}
use Rattle.dav_documents_core.specs.Private.LentKeys.{LentKey, lent_key_cmp, name_at}
use Rattle.dav_documents_core.specs.PropertyQuestions.{and_new}
use Rattle.dav_xml_core.specs.Namespaces.{same_name}

text_is : (a b : List ℕ) → is_eq (slice_cmp nat_cmp a b) ≡ bytes_eq b a
text_is a b =
    let d = bytes_eq-Decides b a in
    is_eq-slice_cmp a b ∙ same_from_decides {P = a ≡ b} _ _ (bytes_eq-Decides a b) (λ e. sym (d.0 e), λ e. d.1 (sym e))

both : (o p : Ordering) (x y : Bool) → is_eq o ≡ x → is_eq p ≡ y → is_eq (ordering_then o p) ≡ (y && x)
both Less p x true e f = e
both Less p x false e f = refl
both Equal p x true e f = f ∙ e
both Equal p x false e f = f
both Greater p x true e f = e
both Greater p x false e f = refl

key_is : (a b : LentKey) → is_eq (lent_key_cmp a b) ≡ same_name (name_at b) (name_at a)
key_is a b = both (slice_cmp nat_cmp a.0.now b.0.now) (slice_cmp nat_cmp a.1.now b.1.now) _ _ (text_is a.0.now b.0.now) (text_is a.1.now b.1.now)

as_or : (b x : Bool) → cond b true x ≡ (x || (b || false))
as_or true true = refl
as_or true false = refl
as_or false true = refl
as_or false false = refl

-- the names with one more
pub one_name_more : (other key : LentKey) (names : List Name)
    → cond (is_eq (lent_key_cmp key other)) true (list_any (same_name (name_at other)) names) ≡ list_any (same_name (name_at other)) (names ++ name_at key ∷ [])
one_name_more other key names =
    ap (λ b. cond b true (list_any (same_name (name_at other)) names)) (key_is key other)
    ∙ as_or (same_name (name_at other) (name_at key)) (list_any (same_name (name_at other)) names)
    ∙ sym (list_any-append (same_name (name_at other)) names (name_at key ∷ []))

-- a name that was found before, and one that was not
pub old_name : (names : List Name) (name : Name) (had : Bool) → had ≡ list_any (same_name name) names → false ≡ not had → names ≡ and_new names name
old_name names name had e added = go had e added
  where
    go : (had : Bool) → had ≡ list_any (same_name name) names → false ≡ not had → names ≡ and_new names name
    go true e added = ap (λ b. cond b names (names ++ name ∷ [])) e
    go false e added = absurd (false≢true added)

pub new_name : (names : List Name) (name : Name) (had : Bool) → had ≡ list_any (same_name name) names → true ≡ not had → names ++ name ∷ [] ≡ and_new names name
new_name names name had e added = go had e added
  where
    go : (had : Bool) → had ≡ list_any (same_name name) names → true ≡ not had → names ++ name ∷ [] ≡ and_new names name
    go true e added = absurd (false≢true (sym added))
    go false e added = ap (λ b. cond b names (names ++ name ∷ [])) e
