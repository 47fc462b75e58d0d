-- Words looked up in a table.
use Rattle.std.proofs.Common.{◌≡◌, ℕ, ◌+◌, ◌<◌, Bool, true, false, cond, IsTrue, ◌↔◌, List, [], ◌∷◌, length, map, drop, get_or, Option, Some, None, refl, ap, ⊎_elim}
use Rattle.std.specs.Char.{to_ascii_lowercase}
use Rattle.std.specs.List.{fold}
use Rattle.std.proofs.lemmas.Bool.{cases_Bool, false≢true}
use Rattle.std.proofs.lemmas.List.{drop_more}
use Rattle.std.proofs.lemmas.Slice.Eq.{bytes_eq-Decides}
use Rattle.dav_path_core.specs.MethodSets.{is_same_word, bits_in, with_word}

pub same_word_by : (a b : List ℕ) (r : Bool) → (IsTrue r ↔ (map to_ascii_lowercase a ≡ map to_ascii_lowercase b)) → is_same_word a b ≡ r
same_word_by a b true h = (bytes_eq-Decides (map to_ascii_lowercase a) (map to_ascii_lowercase b)).1 (h.0 refl)
same_word_by a b false h =
    ⊎_elim
    (λ (e : is_same_word a b ≡ true). absurd (false≢true (h.1 ((bytes_eq-Decides (map to_ascii_lowercase a) (map to_ascii_lowercase b)).0 e))))
    (λ (e : is_same_word a b ≡ false). e)
    (cases_Bool (is_same_word a b))

module _ {E : Type 0} (view : E → List ℕ × ℕ) where
  pub entry_at : (table : List E) (word : List ℕ) (i : ℕ) (d : E) → i < length table
      → bits_in (map view (drop i table)) word ≡ cond (is_same_word word (view (get_or table i d)).0) (Some (view (get_or table i d)).1) (bits_in (map view (drop (i + 1) table)) word)
  entry_at table word i d h = ap (λ t. bits_in (map view t) word) (drop_more table i d h)

pub none_with : (more : List (List ℕ)) → fold with_word None more ≡ None
none_with [] = refl
none_with (word ∷ more) = none_with more

module _ {E : Type 0} (view : E → List ℕ) where
  pub word_at : (words : List E) (so_far : Option ℕ) (i : ℕ) (d : E) → i < length words
      → fold with_word so_far (map view (drop i words)) ≡ fold with_word (with_word so_far (view (get_or words i d))) (map view (drop (i + 1) words))
  word_at words so_far i d h = ap (λ t. fold with_word so_far (map view t)) (drop_more words i d h)
