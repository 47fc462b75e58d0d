-- Pieces between slashes: of bytes put together, of a URL spelling, and of a path.
use Rattle.std.proofs.Common.{◌≡◌, ◌⊎◌, inl, inr, ℕ, suc, ◌<◌, Bool, true, false, List, [], ◌∷◌, ◌++◌, length, map, refl, sym, ap, ◌∙◌, ⊎_elim, append_assoc, append-nil, arith}
use Rattle.std.specs.Prelude.{Contains}
use Rattle.std.specs.List.{AllByRecursion, flat_map, onto_first}
use Rattle.std.proofs.lemmas.Bool.{cases_Bool, cond_both, eqb-true}
use Rattle.std.proofs.lemmas.Bool.Decides.{nat_tests}
use Rattle.std.proofs.lemmas.List.Elements.{All-weaker, recursion_from_All, All-from_recursion}
use Rattle.std.proofs.lemmas.List.Splits.{slice_split-cons_yes, slice_split-cons_no}
use Rattle.percent_encoding.specs.Percent.{percent_encode_byte, percent_decode}
use Rattle.percent_encoding.proofs.PercentLemmas.{IsByte, IsEscapeByte, All-percent_encode_byte}
use Rattle.dav_path_core.specs.Segments.{slash_pieces, is_slash}
use Rattle.dav_path_core.specs.Url.{is_plain, url, url_byte}
use Rattle.dav_path_core.specs.PathReading.{path_of}
use Rattle.dav_path_core.proofs.paths.KeptLemmas.{path_with_slash, path_with_none}
use Rattle.dav_path_core.proofs.paths.ParentLemmas.{HasNoSlash}
use Rattle.dav_path_core.proofs.paths.UrlLemmas.{decoded_url}

-- ---- bytes put together

-- the first piece, and the others
pub first_piece : (bs : List ℕ) → (q : List ℕ) × (qs : List (List ℕ)) × (slash_pieces bs ≡ q ∷ qs)
first_piece [] = ([], [], refl)
first_piece (b ∷ bs) =
    ⊎_elim
    (λ (yes : is_slash b ≡ true). ([], slash_pieces bs, slice_split-cons_yes is_slash b bs yes))
    (λ (no : is_slash b ≡ false). let rest = first_piece bs in (b ∷ rest.0, rest.1, slice_split-cons_no is_slash b bs no ∙ ap (onto_first b) rest.2))
    (cases_Bool (is_slash b))

-- bytes without a slash go before the first piece
pub pieces-behind : (front bs q : List ℕ) (qs : List (List ℕ)) → HasNoSlash front → slash_pieces bs ≡ q ∷ qs → slash_pieces (front ++ bs) ≡ (front ++ q) ∷ qs
pieces-behind [] bs q qs h e = e
pieces-behind (b ∷ front) bs q qs h e =
    slice_split-cons_no is_slash b (front ++ bs) h.0 ∙ ap (onto_first b) (pieces-behind front bs q qs h.1 e)

pub pieces-at_slash : (front back : List ℕ) → slash_pieces (front ++ 47 ∷ back) ≡ slash_pieces front ++ slash_pieces back
pieces-at_slash [] back = refl
pieces-at_slash (b ∷ front) back =
    ⊎_elim
    (λ (yes : is_slash b ≡ true).
    slice_split-cons_yes is_slash b (front ++ 47 ∷ back) yes ∙ ap (λ l. [] ∷ l) (pieces-at_slash front back)
    ∙ sym (ap (λ l. l ++ slash_pieces back) (slice_split-cons_yes is_slash b front yes)))
    (λ (no : is_slash b ≡ false).
    let rest = first_piece front in
    slice_split-cons_no is_slash b (front ++ 47 ∷ back) no
    ∙ ap (onto_first b) (pieces-at_slash front back ∙ ap (λ l. l ++ slash_pieces back) rest.2)
    ∙ sym (ap (λ l. l ++ slash_pieces back) (slice_split-cons_no is_slash b front no ∙ ap (onto_first b) rest.2)))
    (cases_Bool (is_slash b))

-- what holds of each byte holds of those of each piece
pub pieces-All : (P : ℕ → Type 0) (bs : List ℕ) → AllByRecursion P bs → AllByRecursion (AllByRecursion P) (slash_pieces bs)
pieces-All P [] h = (tt, tt)
pieces-All P (b ∷ bs) h =
    cond_both (is_slash b) ([] ∷ slash_pieces bs) (onto_first b (slash_pieces bs)) (λ l. AllByRecursion (AllByRecursion P) l)
    (λ e. (tt, pieces-All P bs h.1))
    (λ e. onto (slash_pieces bs) (pieces-All P bs h.1))
  where
    onto : (parts : List (List ℕ)) → AllByRecursion (AllByRecursion P) parts → AllByRecursion (AllByRecursion P) (onto_first b parts)
    onto [] k = ((h.0, tt), tt)
    onto (part ∷ parts) k = ((h.0, k.0), k.1)

-- a piece that lacks a slash by its elements
pub HasNoSlash-from_lack : (s : List ℕ) → ¬ Contains s 47 → HasNoSlash s
HasNoSlash-from_lack [] h = tt
HasNoSlash-from_lack (b ∷ s) h = (
  ⊎_elim (λ (yes : is_slash b ≡ true). absurd (h (0, omega arith, eqb-true b 47 yes))) (λ (no : is_slash b ≡ false). no) (cases_Bool (is_slash b)),
  HasNoSlash-from_lack s (λ c. h (suc c.0, omega (arith, c.1), c.2)),
)

-- ---- of a URL spelling

escape_no_slash : (b : ℕ) → IsEscapeByte b → is_slash b ≡ false
escape_no_slash b h = grind (arith, nat_tests)

url_byte-no_slash : (b : ℕ) → is_slash b ≡ false → HasNoSlash (url_byte b)
url_byte-no_slash b other =
    cond_both (is_plain b) (b ∷ []) (percent_encode_byte b) HasNoSlash
    (λ _. (other, tt))
    (λ _. recursion_from_All (λ c. is_slash c ≡ false) (percent_encode_byte b) (All-weaker IsEscapeByte (λ c. is_slash c ≡ false) escape_no_slash (percent_encode_byte b) (All-percent_encode_byte b)))

pub pieces-url : (bs : List ℕ) → slash_pieces (url bs) ≡ map url (slash_pieces bs)
unfolding url
pieces-url [] = refl
pieces-url (b ∷ bs) =
    ⊎_elim
    (λ (yes : is_slash b ≡ true).
    rw (eqb-true b 47 yes) (ap (λ l. [] ∷ l) (pieces-url bs)))
    (λ (no : is_slash b ≡ false).
    let rest = first_piece bs in
    pieces-behind (url_byte b) (url bs) (url rest.0) (map url rest.1) (url_byte-no_slash b no) (pieces-url bs ∙ ap (map url) rest.2)
    ∙ sym (ap (map url) (slice_split-cons_no is_slash b bs no ∙ ap (onto_first b) rest.2)))
    (cases_Bool (is_slash b))

-- pieces of bytes are what their spellings are decoded to
decoded_urls : (parts : List (List ℕ)) → AllByRecursion (AllByRecursion IsByte) parts → map percent_decode (map url parts) ≡ parts
decoded_urls [] h = refl
decoded_urls (part ∷ parts) h =
    ap (λ s. s ∷ map percent_decode (map url parts)) (decoded_url part (All-from_recursion IsByte part h.0)) ∙ ap (λ l. part ∷ l) (decoded_urls parts h.1)

pub decoded_pieces-url : (bs : List ℕ) → AllByRecursion (AllByRecursion IsByte) (slash_pieces bs) → map percent_decode (slash_pieces (url bs)) ≡ slash_pieces bs
decoded_pieces-url bs h = ap (map percent_decode) (pieces-url bs) ∙ decoded_urls (slash_pieces bs) h

-- ---- of a path

pieces-flat : (kept t : List (List ℕ)) (tail : List ℕ) → AllByRecursion HasNoSlash kept → slash_pieces tail ≡ [] ∷ t → slash_pieces (flat_map (λ s. 47 ∷ s) kept ++ tail) ≡ [] ∷ (kept ++ t)
pieces-flat [] t tail h e = e
pieces-flat (s ∷ kept) t tail h e =
    let rest = flat_map (λ s. 47 ∷ s) kept in
    ap (λ l. [] ∷ slash_pieces l) (append_assoc s rest tail)
    ∙ ap (λ l. [] ∷ l) (pieces-behind s (rest ++ tail) [] (kept ++ t) h.0 (pieces-flat kept t tail h.1 e))
    ∙ ap (λ l. [] ∷ l ∷ (kept ++ t)) (append-nil s)

-- what stands behind the kept pieces: one empty piece or none
pub data IsTail : List (List ℕ) → Type 0 where
  closed : IsTail []
  slashed : IsTail ([] ∷ [])

pub record Cuts (path : List ℕ) (kept : List (List ℕ)) : Type 0 where
  pub tail : List (List ℕ)
  pub pieces_are : slash_pieces path ≡ [] ∷ (kept ++ tail)
  pub is_tail : IsTail tail

with_slash : (kept : List (List ℕ)) (slash : Bool) → AllByRecursion HasNoSlash kept → (slash ≡ true) ⊎ (length kept ≡ 0) → Cuts (path_of kept slash) kept
with_slash kept slash h k =
    record { tail = [] ∷ []; pieces_are = ap slash_pieces (sym (path_with_slash kept slash k)) ∙ pieces-flat kept ([] ∷ []) (47 ∷ []) h refl; is_tail = slashed }

-- without a slash at the end there is no empty piece behind
pub pieces-closed : (kept : List (List ℕ)) → AllByRecursion HasNoSlash kept → 0 < length kept → slash_pieces (path_of kept false) ≡ [] ∷ (kept ++ [])
pieces-closed kept h k =
    ap slash_pieces (sym (path_with_none kept false refl k) ∙ sym (append-nil (flat_map (λ s. 47 ∷ s) kept))) ∙ pieces-flat kept [] [] h refl

pub cuts_of : (kept : List (List ℕ)) (slash : Bool) → AllByRecursion HasNoSlash kept → Cuts (path_of kept slash) kept
cuts_of kept true h = with_slash kept true h (inl refl)
cuts_of [] false h = with_slash [] false h (inr refl)
cuts_of (s ∷ kept) false h = record { tail = []; pieces_are = pieces-closed (s ∷ kept) h (omega arith); is_tail = closed }
