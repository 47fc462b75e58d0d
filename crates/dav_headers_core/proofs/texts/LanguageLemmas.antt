-- Languages, as a loop goes over values, and that they are texts.
use Rattle.std.proofs.Common.{◌≡◌, refl, sym, ap, ◌∙◌, ℕ, ◌+◌, ◌<◌, arith, Bool, true, false, ◌&&◌, List, [], ◌∷◌, ◌++◌, length, get_or, take, Option, None, Some}
use Rattle.std.specs.Prelude.{is_some}
use Rattle.std.proofs.lemmas.Bool.{and_from, and_parts}
use Rattle.std.specs.List.{flat_map, list_all}
use Rattle.std.proofs.lemmas.List.{take_more, append-nil}
use Rattle.std.proofs.lemmas.List.Concat.{flat_map-append}
use Rattle.http_header.specs.FieldValue.{FieldValue}
use Rattle.dav_headers_core.specs.declared.davheaders.errors.HeaderError.{HeaderError}
use Rattle.dav_headers_core.specs.declared.davheaders.errors.HeaderError.TheVariants.{Invalid, OutOfMemory}
use Rattle.dav_headers_core.specs.HeaderGives.{Refuses}
use Rattle.dav_headers_core.specs.Optional.{◌>>=◌, when, every}
use Rattle.dav_headers_core.specs.Values.{is_text_byte, text_of, are_texts, texts_of}
use Rattle.dav_headers_core.specs.CommaPieces.{comma_pieces}
use Rattle.dav_headers_core.specs.Languages.{is_language, language_of, languages_of_bytes, languages_of_all_values, language_header}
use Rattle.dav_headers_core.proofs.lists.EveryLemmas.{every_push, none_within}
use Rattle.dav_headers_core.proofs.lists.OptionalLemmas.{bind_some, when_some, some_is}
use Rattle.dav_headers_core.proofs.texts.JoinedLemmas.{pieces_are_texts}

abbrev flat : List (List (List ℕ)) → List (List ℕ)
flat lists = flat_map (λ list. list) lists

flat_push : (lists : List (List (List ℕ))) (list : List (List ℕ)) → flat (lists ++ list ∷ []) ≡ flat lists ++ list
flat_push lists list = flat_map-append (λ list. list) lists (list ∷ []) ∙ ap (λ (l : List (List ℕ)). flat lists ++ l) (append-nil list)

join : (front : Option (List (List (List ℕ)))) (last : Option (List (List ℕ))) (ls ms : List (List ℕ)) → (front >>= λ lists. Some (flat lists)) ≡ Some ls → last ≡ Some ms
    → ((front >>= λ lists. last >>= λ list. Some (lists ++ list ∷ [])) >>= λ lists. Some (flat lists)) ≡ Some (ls ++ ms)
join None last ls ms e one = absurd cc
join (Some lists) None ls ms e one = absurd cc
join (Some lists) (Some list) ls ms e one =
    let left : flat lists ≡ ls = cc in
    let right : list ≡ ms = cc in
    rw (flat_push lists list, left, right) refl

pub values_more : (values : List FieldValue) (i : ℕ) (d : FieldValue) (ls ms ns : List (List ℕ)) → i < length values → languages_of_all_values (take i values) ≡ Some ls → languages_of_bytes (get_or values i d).bytes ≡ Some ms → ns ≡ ls ++ ms → languages_of_all_values (take (i + 1) values) ≡ Some ns
values_more values i d ls ms ns lt e one more =
    rw (take_more values i d lt, every_push (λ (value : FieldValue). languages_of_bytes value.bytes) (take i values) (get_or values i d), more)
    (join (every (λ (value : FieldValue). languages_of_bytes value.bytes) (take i values)) (languages_of_bytes (get_or values i d).bytes) ls ms e one)

values_refused : (values : List FieldValue) (i : ℕ) (d : FieldValue) → i < length values → languages_of_bytes (get_or values i d).bytes ≡ None → languages_of_all_values values ≡ None
values_refused values i d lt e = rw (none_within (λ (value : FieldValue). languages_of_bytes value.bytes) values i d lt e) refl

-- what refuses a value refuses the values
pub refused_all : (values : List FieldValue) (i : ℕ) (d : FieldValue) (e : HeaderError) → i < length values → Refuses e (languages_of_bytes (get_or values i d).bytes) → Refuses e (languages_of_all_values values)
refused_all values i d Invalid lt refused = values_refused values i d lt refused
refused_all values i d OutOfMemory lt refused = tt

-- ---- languages are texts

same_languages : (xs ys : List (List ℕ)) → every language_of xs ≡ Some ys → xs ≡ ys
same_languages [] ys e = some_is _ _ e
same_languages (x ∷ xs) ys e =
    let f : List ℕ → Option (List (List ℕ)) = λ y. every language_of xs >>= λ zs. Some (y ∷ zs) in
    let r = bind_some (language_of x) f ys e in
    let g : List (List ℕ) → Option (List (List ℕ)) = λ zs. Some (r.0 ∷ zs) in
    let q = bind_some (every language_of xs) g ys r.2 in
    let head : x ≡ r.0 = (when_some (is_language x) x r.0 r.1).1 in
    let tail : xs ≡ q.0 = same_languages xs q.0 q.1 in
    let both : x ∷ xs ≡ r.0 ∷ q.0 = cc (head, tail) in
    both ∙ some_is _ _ q.2

pub languages_are_texts : (text : List ℕ) (ls : List (List ℕ)) → list_all is_text_byte text ≡ true → every language_of (comma_pieces text) ≡ Some ls → are_texts ls ≡ true
languages_are_texts text ls visible e = ap are_texts (sym (same_languages (comma_pieces text) ls e)) ∙ pieces_are_texts text visible

bytes_are_texts : (bytes : List ℕ) (ls : List (List ℕ)) → languages_of_bytes bytes ≡ Some ls → are_texts ls ≡ true
bytes_are_texts bytes ls e =
    let f : List ℕ → Option (List (List ℕ)) = λ text. every language_of (comma_pieces text) in
    let r = bind_some (text_of bytes) f ls e in
    let w = when_some (list_all is_text_byte bytes) bytes r.0 r.1 in
    languages_are_texts r.0 ls (ap (λ (text : List ℕ). list_all is_text_byte text) (sym w.1) ∙ w.0) r.2

texts-append : (xs ys : List (List ℕ)) → are_texts xs ≡ true → are_texts ys ≡ true → are_texts (xs ++ ys) ≡ true
texts-append [] ys h k = k
texts-append (x ∷ xs) ys h k =
    let parts = and_parts (list_all is_text_byte x) (are_texts xs) h in
    and_from (list_all is_text_byte x) (are_texts (xs ++ ys)) parts.0 (texts-append xs ys parts.1 k)

abbrev each : List FieldValue → Option (List (List (List ℕ)))
each values = every (λ (value : FieldValue). languages_of_bytes value.bytes) values

lists_are_texts : (values : List FieldValue) (lists : List (List (List ℕ))) → each values ≡ Some lists → are_texts (flat lists) ≡ true
lists_are_texts [] lists e = rw (← some_is _ _ e) refl
lists_are_texts (value ∷ values) lists e =
    let f : List (List ℕ) → Option (List (List (List ℕ))) = λ y. each values >>= λ ys. Some (y ∷ ys) in
    let r = bind_some (languages_of_bytes value.bytes) f lists e in
    let g : List (List (List ℕ)) → Option (List (List (List ℕ))) = λ ys. Some (r.0 ∷ ys) in
    let q = bind_some (each values) g lists r.2 in
    rw (← some_is _ _ q.2) (texts-append r.0 (flat q.0) (bytes_are_texts value.bytes r.0 r.1) (lists_are_texts values q.0 q.1))

pub all_values_are_texts : (values : List FieldValue) (ls : List (List ℕ)) → languages_of_all_values values ≡ Some ls → are_texts ls ≡ true
all_values_are_texts values ls e =
    let f : List (List (List ℕ)) → Option (List (List ℕ)) = λ lists. Some (flat lists) in
    let r = bind_some (each values) f ls e in
    rw (← some_is _ _ r.2) (lists_are_texts values r.0 r.1)

-- ---- values that are no texts

each_text : (values : List FieldValue) → is_some (every (λ (v : FieldValue). text_of v.bytes) values) ≡ list_all (λ (v : FieldValue). list_all is_text_byte v.bytes) values
each_text [] = refl
each_text (value ∷ values) = go (list_all is_text_byte value.bytes) (every (λ (v : FieldValue). text_of v.bytes) values) (each_text values)
  where
    go : (t : Bool) (others : Option (List (List ℕ))) → is_some others ≡ list_all (λ (v : FieldValue). list_all is_text_byte v.bytes) values
        → is_some (when t value.bytes >>= λ y. others >>= λ ys. Some (y ∷ ys)) ≡ (t && list_all (λ (v : FieldValue). list_all is_text_byte v.bytes) values)
    go false others e = refl
    go true None e = e
    go true (Some ys) e = e

pub texts_none : (values : List FieldValue) → length values ≡ 0 → is_some (texts_of values) ≡ false
texts_none [] none = refl
texts_none (value ∷ values) none = absurd (omega arith)

pub texts_each : (values : List FieldValue) → (length values ≡ 0 → ⊥) → is_some (texts_of values) ≡ list_all (λ (v : FieldValue). list_all is_text_byte v.bytes) values
texts_each [] some = absurd (some refl)
texts_each (value ∷ values) some = each_text (value ∷ values)

nothing_behind : (first : Option (List (List ℕ))) (rest : Option (List (List (List ℕ)))) → rest ≡ None → (first >>= λ y. rest >>= λ ys. Some (y ∷ ys)) ≡ None
nothing_behind None rest e = refl
nothing_behind (Some y) rest e = rw e refl

no_text_no_languages : (values : List FieldValue) → is_some (every (λ (v : FieldValue). text_of v.bytes) values) ≡ false → each values ≡ None
no_text_no_languages [] none = absurd cc
no_text_no_languages (value ∷ values) none = go (text_of value.bytes) (every (λ (v : FieldValue). text_of v.bytes) values) none (no_text_no_languages values)
  where
    go : (text : Option (List ℕ)) (others : Option (List (List ℕ))) → is_some (text >>= λ y. others >>= λ ys. Some (y ∷ ys)) ≡ false
        → (is_some others ≡ false → each values ≡ None)
        → ((text >>= λ t. every language_of (comma_pieces t)) >>= λ y. each values >>= λ ys. Some (y ∷ ys)) ≡ None
    go None others none hyp = refl
    go (Some t) None none hyp = nothing_behind (every language_of (comma_pieces t)) (each values) (hyp refl)
    go (Some t) (Some ys) none hyp = absurd cc

pub no_texts : (values : List FieldValue) → is_some (texts_of values) ≡ false → language_header values ≡ None
no_texts [] none = refl
no_texts (value ∷ values) none = rw (no_text_no_languages (value ∷ values) none) refl
