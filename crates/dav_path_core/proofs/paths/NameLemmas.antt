-- The last of a list, and what stands before the last slash.
use Rattle.std.proofs.Common.{◌≡◌, ℕ, ◌+◌, ◌-◌, ◌<◌, ◌≤◌, true, false, not, List, [], ◌∷◌, length, map, take, get_or, Option, Some, None, refl, sym, ap, ◌∙◌, add-one, sub-one, unwrap_or, Bor, arith}
use Rattle.std.specs.Option.{option_map}
use Rattle.std.specs.List.{before_last, last_or, list_any, suffix_len}
use Rattle.std.proofs.lemmas.List.Elements.{All-from_get_or}
use Rattle.std.proofs.lemmas.List.Folds.{list_any_none}
use Rattle.std.proofs.lemmas.List.Sums.{suffix_len_is}
use Rattle.dav_path_core.specs.Segments.{is_slash}

last_or-map : {A B : Type 0} (f : A → B) (o : Option A) (xs : List A) → last_or (option_map f o) (map f xs) ≡ option_map f (last_or o xs)
last_or-map f o [] = refl
last_or-map f o (x ∷ xs) = last_or-map f (Some x) xs

or_nothing : (o : Option (Bor (List ℕ))) (d : Bor (List ℕ)) → d.now ≡ [] → (unwrap_or o d).now ≡ unwrap_or (option_map (λ x. x.now) o) []
or_nothing None d h = h
or_nothing (Some x) d h = refl

-- the last item that an iterator gave, or the empty list, where its items are these
pub name_from : (xs : List (Bor (List ℕ))) (names : List (List ℕ)) (o : Option (Bor (List ℕ))) (r d : Bor (List ℕ)) → map (λ x. x.now) xs ≡ names → o ≡ last_or None xs → r ≡ unwrap_or o d → d.now ≡ [] → r.now ≡ unwrap_or (last_or None names) []
name_from xs names o r d items last or nothing =
    ap (λ x. x.now) or ∙ or_nothing o d nothing ∙ ap (λ p. unwrap_or (option_map (λ x. x.now) p) []) last ∙ ap (λ p. unwrap_or p []) (sym (last_or-map (λ x. x.now) None xs) ∙ ap (last_or None) items)

-- no slash stands from i on
pub record NoSlashFrom (bytes : List ℕ) (i : ℕ) : Type 0 where
  pub none : (k : ℕ) → i ≤ k → k < length bytes → is_slash (get_or bytes k 0) ≡ false

pub before_last_at : (bytes : List ℕ) (i : ℕ) → i < length bytes → is_slash (get_or bytes i 0) ≡ true → NoSlashFrom bytes (i + 1) → before_last is_slash bytes ≡ take i bytes
before_last_at bytes i within here later =
    let long : suffix_len (λ b. not (is_slash b)) bytes ≡ length bytes - (i + 1) =
    suffix_len_is (λ b. not (is_slash b)) bytes (i + 1) 0 (omega arith) (λ k from below. ap not (later.none k from below)) (λ _. rw (add-one, sub-one) (ap not here)) in
    ap (λ n. take n bytes) (omega arith)

pub no_slash : (bytes : List ℕ) → NoSlashFrom bytes 0 → list_any is_slash bytes ≡ false
no_slash bytes h = list_any_none is_slash bytes (All-from_get_or (λ b. is_slash b ≡ false) bytes 0 (λ k below. h.none k (omega arith) below))
