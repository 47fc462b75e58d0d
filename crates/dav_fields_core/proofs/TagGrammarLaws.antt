-- A list of entity tags is read by its grammar.
use Rattle.std.proofs.Common.{◌≡◌, ◌↔◌, inl, inr, ℕ, zero, suc, ◌+◌, ◌-◌, ◌<◌, ◌≤◌, Bool, true, false, not, ◌&&◌, ◌||◌, cond, eqb, List, [], ◌∷◌, ◌++◌, length, get_or, take, drop, map, reverse, refl, sym, ap, subst, ◌∙◌, arith, length-append, length-drop, take-append-drop}
use Rattle.std.specs.Prelude.{codes}
use Rattle.std.specs.Char.{is_ascii_whitespace}
use Rattle.std.specs.List.{AllByRecursion, list_all, prefix_len, suffix_len}
use Rattle.std.proofs.lemmas.Bool.{cases_Bool, and_parts, and_from, eqb-true, false≢true, ne_eqb, not-true}
use Rattle.std.proofs.lemmas.List.{append_assoc, append-nil, get_or-drop, get_or-reverse}
use Rattle.std.proofs.lemmas.List.Sums.{suffix_len_is, suffix_len-le-length, prefix_len_passes, list_all-from_AllPass, AllPass-from_list_all}
use Rattle.std.proofs.Math.Seq.{take-append_seam, get_or-append_seam, get_or-append_right}
use Rattle.dav_headers_core.specs.CommaPieces.{is_comma}
use Rattle.dav_headers_core.specs.Tags.{quote, mark, spelled_tag, is_tag}
use Rattle.dav_headers_core.proofs.tags.TagLemmas.{tag_sound, tag_complete}
use Rattle.dav_fields_core.specs.ListedTags as listed
use Rattle.dav_fields_core.specs.ListedTags.{elements, in_first, is_visible, parted_elements, trim}
use Rattle.dav_fields_core.specs.TagGrammar.{IsBlank, IsElement, IsPadded, ReadsAsTags}
use Rattle.dav_fields_core.proofs.ListedTagLemmas.{behind_first, begins}

-- ---- pieces that no comma parts

behind_join : (a b : List ℕ) (pieces : List (List ℕ)) → behind_first a (behind_first b pieces) ≡ behind_first (a ++ b) pieces
behind_join a b [] = refl
behind_join a b (piece ∷ pieces) = ap (λ x. x ∷ pieces) (sym (append_assoc a b piece))

in_first_is : (b : ℕ) (pieces : List (List ℕ)) → in_first b pieces ≡ behind_first (b ∷ []) pieces
in_first_is b [] = refl
in_first_is b (piece ∷ pieces) = refl

-- one byte more in front
one_more : (b : ℕ) (xs rest : List ℕ) (inside : Bool) (pieces : List (List ℕ)) → parted_elements inside rest ≡ behind_first xs pieces → in_first b (parted_elements inside rest) ≡ behind_first (b ∷ xs) pieces
one_more b xs rest inside pieces h = ap (in_first b) h ∙ in_first_is b (behind_first xs pieces) ∙ behind_join (b ∷ []) xs pieces

and_false : (b : Bool) → (b && false) ≡ false
and_false true = refl
and_false false = refl

abbrev IsPlain : ℕ → Type 0
IsPlain b = (is_comma b ≡ false) × (eqb b quote ≡ false)

plain : (xs ys : List ℕ) → AllByRecursion IsPlain xs → parted_elements false (xs ++ ys) ≡ behind_first xs (parted_elements false ys)
plain [] ys h = begins false ys
plain (b ∷ xs) ys h =
    let r = xs ++ ys in
    ap (λ t. cond (t && true) ([] ∷ parted_elements false r) (in_first b (parted_elements (cond (eqb b quote) true false) r))) h.0.0
    ∙ ap (λ t. in_first b (parted_elements (cond t true false) r)) h.0.1 ∙ one_more b xs r false (parted_elements false ys) (plain xs ys h.1)

inner : (xs ys : List ℕ) → AllByRecursion (λ b. eqb b quote ≡ false) xs → parted_elements true (xs ++ ys) ≡ behind_first xs (parted_elements true ys)
inner [] ys h = begins true ys
inner (b ∷ xs) ys h =
    let r = xs ++ ys in
    ap (λ t. cond t ([] ∷ parted_elements true r) (in_first b (parted_elements (cond (eqb b quote) false true) r))) (and_false (is_comma b))
    ∙ ap (λ t. in_first b (parted_elements (cond t false true) r)) h.0 ∙ one_more b xs r true (parted_elements true ys) (inner xs ys h.1)

unequal : (xs : List ℕ) → AllByRecursion (λ b. b ≡ quote → ⊥) xs → AllByRecursion (λ b. eqb b quote ≡ false) xs
unequal [] h = tt
unequal (b ∷ xs) h = (ne_eqb b quote h.0, unequal xs h.1)

-- a tag between quotes
quoted : (xs ys : List ℕ) → AllByRecursion (λ b. eqb b quote ≡ false) xs → parted_elements false ((quote ∷ xs ++ quote ∷ []) ++ ys) ≡ behind_first (quote ∷ xs ++ quote ∷ []) (parted_elements false ys)
quoted xs ys h =
    let body : parted_elements true (xs ++ (quote ∷ ys)) ≡ behind_first (xs ++ quote ∷ []) (parted_elements false ys) =
    inner xs (quote ∷ ys) h ∙ ap (behind_first xs) (in_first_is quote (parted_elements false ys)) ∙ behind_join xs (quote ∷ []) (parted_elements false ys) in
    ap (λ r. in_first quote (parted_elements true r)) (append_assoc xs (quote ∷ []) ys) ∙ one_more quote (xs ++ quote ∷ []) (xs ++ (quote ∷ ys)) true (parted_elements false ys) body

marked : (weak : Bool) (xs ys : List ℕ) → AllByRecursion (λ b. eqb b quote ≡ false) xs
    → parted_elements false ((mark weak ++ (quote ∷ xs ++ quote ∷ [])) ++ ys) ≡ behind_first (mark weak ++ (quote ∷ xs ++ quote ∷ [])) (parted_elements false ys)
marked false xs ys h = quoted xs ys h
marked true xs ys h =
    plain (codes "W/") ((quote ∷ xs ++ quote ∷ []) ++ ys) ((refl, refl), ((refl, refl), tt))
    ∙ ap (behind_first (codes "W/")) (quoted xs ys h) ∙ behind_join (codes "W/") (quote ∷ xs ++ quote ∷ []) (parted_elements false ys)

element_whole : (e ys : List ℕ) → IsElement e → parted_elements false (e ++ ys) ≡ behind_first e (parted_elements false ys)
element_whole e ys (inl none) = ap (λ x. parted_elements false (x ++ ys)) none ∙ begins false ys ∙ ap (λ x. behind_first x (parted_elements false ys)) (sym none)
element_whole e ys (inr (tag, seen)) =
    ap (λ x. parted_elements false (x ++ ys)) tag.parts ∙ marked tag.weak tag.opaque_tag ys (unequal tag.opaque_tag tag.no_quote)
    ∙ ap (λ x. behind_first x (parted_elements false ys)) (sym tag.parts)

not_blank : (c b : ℕ) → is_ascii_whitespace c ≡ false → is_ascii_whitespace b ≡ true → eqb b c ≡ false
not_blank c b other_kind is = elim (cases_Bool (eqb b c)) [
  | inl same ↦ absurd (false≢true (sym other_kind ∙ ap is_ascii_whitespace (sym (eqb-true b c same)) ∙ is))
  | inr other ↦ other
]

blank_plain : (xs : List ℕ) → IsBlank xs → AllByRecursion IsPlain xs
blank_plain [] h = tt
blank_plain (b ∷ xs) h = ((not_blank 44 b refl h.0, not_blank 34 b refl h.0), blank_plain xs h.1)

padded_whole : (text e ys : List ℕ) → IsPadded text e → parted_elements false (text ++ ys) ≡ behind_first text (parted_elements false ys)
padded_whole text e ys h =
    let spelled_tag : (text ++ ys) ≡ h.left ++ (e ++ (h.right ++ ys)) =
    ap (λ x. x ++ ys) h.parts ∙ append_assoc h.left (e ++ h.right) ys ∙ ap (λ x. h.left ++ x) (append_assoc e h.right ys) in
    ap (parted_elements false) spelled_tag ∙ plain h.left (e ++ (h.right ++ ys)) (blank_plain h.left h.before)
    ∙ ap (behind_first h.left) (element_whole e (h.right ++ ys) h.is_element ∙ ap (behind_first e) (plain h.right ys (blank_plain h.right h.after)) ∙ behind_join e h.right (parted_elements false ys))
    ∙ behind_join h.left (e ++ h.right) (parted_elements false ys) ∙ ap (λ x. behind_first x (parted_elements false ys)) (sym h.parts)

-- ---- white space

blank_at : (xs : List ℕ) (i : ℕ) → i < length xs → IsBlank xs → is_ascii_whitespace (get_or xs i 0) ≡ true
blank_at [] i lt h = absurd (omega arith)
blank_at (b ∷ xs) zero lt h = h.0
blank_at (b ∷ xs) (suc i) lt h = blank_at xs i (omega arith) h.1

abbrev tail_of : List ℕ → List ℕ
tail_of text = drop (prefix_len is_ascii_whitespace text) text

skip : (left rest : List ℕ) → IsBlank left → tail_of (left ++ rest) ≡ tail_of rest
skip [] rest h = refl
skip (b ∷ left) rest h =
    let n = prefix_len is_ascii_whitespace (left ++ rest) in
    let more : 1 + n ≡ suc n = omega arith in
    ap (λ t. drop (cond t (1 + n) 0) (b ∷ (left ++ rest))) h.0 ∙ ap (λ k. drop k (b ∷ (left ++ rest))) more ∙ skip left rest h.1

abbrev cut : List ℕ → List ℕ
cut tail = take (length tail - suffix_len is_ascii_whitespace tail) tail

-- what stands at the front of a tail stays, up to the white space behind it
cut_end : (body right : List ℕ) (last : ℕ) → is_ascii_whitespace last ≡ false → IsBlank right
    → (let tail = (body ++ last ∷ []) ++ right in take (length tail - suffix_len is_ascii_whitespace tail) tail ≡ body ++ last ∷ [])
cut_end body right last seen h =
    let e = body ++ last ∷ [] in
    let tail = e ++ right in
    let long : length tail ≡ length e + length right = length-append e right in
    let size : length e ≡ length body + 1 = length-append body (last ∷ []) in
    let at_last : get_or tail (length e - 1) 0 ≡ last =
    ap (λ n. get_or tail n 0) (let same : length e - 1 ≡ length body = omega arith in same) ∙ ap (λ x. get_or x (length body) 0) (append_assoc body (last ∷ []) right)
    ∙ get_or-append_seam body last right 0 in
    let counted = suffix_len_is is_ascii_whitespace tail (length e) 0 (omega arith)
    (λ k low high. ap is_ascii_whitespace (get_or-append_right e right k 0 low) ∙ blank_at right (k - length e) (omega arith) h)
    (λ some. ap is_ascii_whitespace at_last ∙ seen) in
    let kept : length tail - suffix_len is_ascii_whitespace tail ≡ length e = omega arith in
    ap (λ n. take n tail) kept ∙ take-append_seam e right

tag_stays : (weak : Bool) (opaque_tag right : List ℕ) → IsBlank right → cut (tail_of (spelled_tag weak opaque_tag ++ right)) ≡ spelled_tag weak opaque_tag
tag_stays true opaque_tag right h = cut_end (87 ∷ 47 ∷ quote ∷ opaque_tag) right quote refl h
tag_stays false opaque_tag right h = cut_end (quote ∷ opaque_tag) right quote refl h

element_stays : (e right : List ℕ) → IsElement e → IsBlank right → cut (tail_of (e ++ right)) ≡ e
element_stays e right (inl none) h =
    ap (λ x. cut (tail_of (x ++ right))) none ∙ ap (λ x. cut (tail_of x)) (sym (append-nil right)) ∙ ap cut (skip right [] h) ∙ sym none
element_stays e right (inr (tag, seen)) h =
    ap (λ x. cut (tail_of (x ++ right))) tag.parts ∙ tag_stays tag.weak tag.opaque_tag right h ∙ sym tag.parts

padded_trim : (text e : List ℕ) → IsPadded text e → trim text ≡ e
padded_trim text e h = ap trim h.parts ∙ ap cut (skip h.left (e ++ h.right) h.before) ∙ element_stays e h.right h.is_element h.after

-- ---- what the grammar reads

or_true : (b : Bool) → (b || true) ≡ true
or_true true = refl
or_true false = refl

element_is : (e : List ℕ) → IsElement e → listed.is_listed_element e ≡ true
element_is e (inl none) = ap listed.is_listed_element none
element_is e (inr (tag, seen)) =
    ap (λ b. eqb (length e) 0 || b) (and_from (is_tag e) (list_all is_visible e) (tag_complete e tag) (list_all-from_AllPass is_visible e seen)) ∙ or_true (eqb (length e) 0)

complete : (whole : List ℕ) (es : List (List ℕ)) → ReadsAsTags whole es → (elements whole ≡ es) × (list_all listed.is_listed_element es ≡ true)
complete whole [] h = absurd h
complete whole (e ∷ []) h =
    let one : parted_elements false whole ≡ whole ∷ [] = ap (parted_elements false) (sym (append-nil whole)) ∙ padded_whole whole e [] h ∙ ap (λ x. x ∷ []) (append-nil whole) in
    (ap (map trim) one ∙ ap (λ x. x ∷ []) (padded_trim whole e h), and_from (listed.is_listed_element e) true (element_is e h.is_element) refl)
complete whole (e ∷ f ∷ more) (front, rest, parts, padded, later) =
    let first : parted_elements false whole ≡ front ∷ parted_elements false rest =
    ap (parted_elements false) parts ∙ padded_whole front e (44 ∷ rest) padded ∙ ap (λ x. x ∷ parted_elements false rest) (append-nil front) in
    let others = complete rest (f ∷ more) later in (
      ap (map trim) first ∙ ap (λ x. x ∷ elements rest) (padded_trim front e padded) ∙ ap (λ x. e ∷ x) others.0,
      and_from (listed.is_listed_element e) (list_all listed.is_listed_element (f ∷ more)) (element_is e padded.is_element) others.1,
    )

-- ---- what is read is of the grammar

blank_front : (text : List ℕ) → IsBlank (take (prefix_len is_ascii_whitespace text) text)
blank_front [] = tt
blank_front (b ∷ text) = by (is_ascii_whitespace b) refl (blank_front text)
  where
    n : ℕ
    n = prefix_len is_ascii_whitespace text

    by : (t : Bool) → is_ascii_whitespace b ≡ t → IsBlank (take (prefix_len is_ascii_whitespace text) text) → IsBlank (take (cond t (1 + prefix_len is_ascii_whitespace text) 0) (b ∷ text))
    by true e h =
        let more : suc (prefix_len is_ascii_whitespace text) ≡ 1 + prefix_len is_ascii_whitespace text = omega arith in
        subst (λ k. IsBlank (take k (b ∷ text))) more (e, h)
    by false e h = tt

blank_by_place : (xs : List ℕ) → ((i : ℕ) → i < length xs → is_ascii_whitespace (get_or xs i 0) ≡ true) → IsBlank xs
blank_by_place [] h = tt
blank_by_place (b ∷ xs) h = (h 0 (omega arith), blank_by_place xs (λ i lt. h (suc i) (omega arith)))

blank_end : (tail : List ℕ) → IsBlank (drop (length tail - suffix_len is_ascii_whitespace tail) tail)
blank_end tail = blank_by_place (drop (length tail - suffix_len is_ascii_whitespace tail) tail) (λ i lt.
    let s = suffix_len is_ascii_whitespace tail in
    let n : ℕ = length tail - s in
    let short : s ≤ length tail = suffix_len-le-length is_ascii_whitespace tail in
    let left : length (drop n tail) ≡ length tail - n = length-drop n tail in
    let k : ℕ = length tail - 1 - (n + i) in
    let below : k < s = omega arith in
    let back : length tail - 1 - k ≡ n + i = omega arith in
    ap is_ascii_whitespace (get_or-drop n tail i 0 ∙ ap (λ j. get_or tail j 0) (sym back) ∙ sym (get_or-reverse tail k 0 (omega arith)))
    ∙ prefix_len_passes is_ascii_whitespace (reverse tail) k 0 below)

nil_of : (e : List ℕ) → eqb (length e) 0 ≡ true → e ≡ []
nil_of [] h = refl
nil_of (b ∷ e) h = absurd (omega (arith, eqb-true (length (b ∷ e)) 0 h))

is_of_grammar : (e : List ℕ) → listed.is_listed_element e ≡ true → IsElement e
is_of_grammar e h = elim (cases_Bool (eqb (length e) 0)) [
  | inl none ↦ inl (nil_of e none)
  | inr some ↦ let parts = and_parts (is_tag e) (list_all is_visible e) (sym (ap (λ b. b || (is_tag e && list_all is_visible e)) some) ∙ h) in
      inr (tag_sound e parts.0, AllPass-from_list_all is_visible e parts.1)
]

padded : (text e : List ℕ) → trim text ≡ e → listed.is_listed_element e ≡ true → IsPadded text e
padded text e is_trim is = record {
  left = take (prefix_len is_ascii_whitespace text) text;
  right = drop (length (tail_of text) - suffix_len is_ascii_whitespace (tail_of text)) (tail_of text);
  before = blank_front text;
  after = blank_end (tail_of text);
  is_element = is_of_grammar e is;
  parts = sym (take-append-drop (prefix_len is_ascii_whitespace text) text) ∙ ap (λ x. take (prefix_len is_ascii_whitespace text) text ++ x)
      (sym (take-append-drop (length (tail_of text) - suffix_len is_ascii_whitespace (tail_of text)) (tail_of text))
      ∙ ap (λ x. x ++ drop (length (tail_of text) - suffix_len is_ascii_whitespace (tail_of text)) (tail_of text)) is_trim);
}

some_piece : (inside : Bool) (bytes : List ℕ) → parted_elements inside bytes ≡ [] → ⊥
some_piece inside [] h = cc
some_piece inside (b ∷ bytes) h = by (is_comma b && not inside) (parted_elements (cond (eqb b quote) (not inside) inside) bytes) h
  where
    by : (t : Bool) (pieces : List (List ℕ)) → cond t ([] ∷ parted_elements inside bytes) (in_first b pieces) ≡ [] → ⊥
    by true pieces h = cc
    by false [] h = cc
    by false (piece ∷ pieces) h = cc

alone : (inside : Bool) (bytes piece : List ℕ) → parted_elements inside bytes ≡ piece ∷ [] → bytes ≡ piece
alone inside [] piece h = cc
alone inside (b ∷ bytes) piece h =
    let after = cond (eqb b quote) (not inside) inside in
    by (is_comma b && not inside) (parted_elements after bytes) (some_piece after bytes) (alone after bytes) h
  where
    by : (t : Bool) (pieces : List (List ℕ)) → (pieces ≡ [] → ⊥) → ((p : List ℕ) → pieces ≡ p ∷ [] → bytes ≡ p)
        → cond t ([] ∷ parted_elements inside bytes) (in_first b pieces) ≡ piece ∷ [] → b ∷ bytes ≡ piece
    by true pieces some rec h = let wrong : parted_elements inside bytes ≡ [] = cc in absurd (some_piece inside bytes wrong)
    by false [] some rec h = absurd (some refl)
    by false (p ∷ []) some rec h = let e = rec p refl in cc
    by false (p ∷ q ∷ pieces) some rec h = absurd (cc)

-- where a comma parts a text
record Split (bytes piece : List ℕ) (pieces : List (List ℕ)) : Type 0 where
  rest : List ℕ
  parts : bytes ≡ piece ++ 44 ∷ rest
  later : parted_elements false rest ≡ pieces

split : (inside : Bool) (bytes piece next : List ℕ) (pieces : List (List ℕ)) → parted_elements inside bytes ≡ piece ∷ next ∷ pieces → Split bytes piece (next ∷ pieces)
split inside [] piece next pieces h = absurd (cc)
split inside (b ∷ bytes) piece next pieces h =
    let after = cond (eqb b quote) (not inside) inside in
    by (is_comma b && not inside) refl (parted_elements after bytes) (split after bytes) h
  where
    by : (t : Bool) → (is_comma b && not inside) ≡ t → (all : List (List ℕ)) → ((p q : List ℕ) (ps : List (List ℕ)) → all ≡ p ∷ q ∷ ps → Split bytes p (q ∷ ps))
        → cond t ([] ∷ parted_elements inside bytes) (in_first b all) ≡ piece ∷ next ∷ pieces → Split (b ∷ bytes) piece (next ∷ pieces)
    by true e all rec h =
        let both = and_parts (is_comma b) (not inside) e in
        let comma : b ≡ 44 = eqb-true b 44 both.0 in
        let outside : inside ≡ false = not-true inside both.1 in
        let bare : piece ≡ [] = cc in
        let left : parted_elements inside bytes ≡ next ∷ pieces = cc in
        record {
          rest = bytes;
          parts = ap (λ x. x ∷ bytes) comma ∙ ap (λ x. x ++ 44 ∷ bytes) (sym bare);
          later = ap (λ x. parted_elements x bytes) (sym outside) ∙ left;
        }
    by false e [] rec h = absurd (cc)
    by false e (p ∷ []) rec h = absurd (cc)
    by false e (p ∷ q ∷ ps) rec h =
        let found = rec p q ps refl in
        let first : b ∷ p ≡ piece = cc in
        let others : q ∷ ps ≡ next ∷ pieces = cc in
        record { rest = found.rest; parts = ap (λ x. b ∷ x) found.parts ∙ ap (λ x. x ++ 44 ∷ found.rest) first; later = found.later ∙ others }

sound : (es : List (List ℕ)) (whole : List ℕ) (pieces : List (List ℕ)) → parted_elements false whole ≡ pieces → map trim pieces ≡ es → list_all listed.is_listed_element es ≡ true → ReadsAsTags whole es
sound [] whole [] p m h = absurd (some_piece false whole p)
sound [] whole (x ∷ pieces) p m h = absurd (cc)
sound (e ∷ []) whole [] p m h = absurd (cc)
sound (e ∷ []) whole (x ∷ []) p m h =
    let same : trim x ≡ e = cc in
    padded whole e (ap trim (alone false whole x p) ∙ same) (and_parts (listed.is_listed_element e) true h).0
sound (e ∷ []) whole (x ∷ y ∷ pieces) p m h = absurd (cc)
sound (e ∷ f ∷ more) whole [] p m h = absurd (cc)
sound (e ∷ f ∷ more) whole (x ∷ []) p m h = absurd (cc)
sound (e ∷ f ∷ more) whole (x ∷ y ∷ pieces) p m h =
    let same : trim x ≡ e = cc in
    let others : map trim (y ∷ pieces) ≡ f ∷ more = cc in
    let parts = and_parts (listed.is_listed_element e) (list_all listed.is_listed_element (f ∷ more)) h in
    let at = split false whole x y pieces p in
    (x, at.rest, at.parts, padded x e same parts.0, sound (f ∷ more) at.rest (y ∷ pieces) at.later others parts.1)

pub by_grammar : (whole : List ℕ) (es : List (List ℕ)) → ReadsAsTags whole es ↔ ((elements whole ≡ es) × (list_all listed.is_listed_element es ≡ true))
by_grammar whole es = (complete whole es, λ h. sound es whole (parted_elements false whole) refl h.0 h.1)
