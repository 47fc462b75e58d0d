-- What path reading gives is normal, and is read again from its URL spelling.
use Rattle.std.proofs.Common.{◌≡◌, ◌≢◌, inl, inr, ℕ, zero, suc, ◌-◌, ◌<◌, ◌≤◌, Bool, true, false, List, [], ◌∷◌, ◌++◌, length, map, take, filter, All, refl, sym, ap, ◌∙◌, subst, ⊎_elim, append-nil, length-append, arith}
use Rattle.std.specs.Prelude.{◌==◌, IsTrue, Contains, codes}
use Rattle.std.specs.List.{AllByRecursion, flat_map}
use Rattle.std.proofs.lemmas.Bool.{cases_Bool, false≢true}
use Rattle.std.proofs.lemmas.Bool.Decides.{nat_tests, Decides-eqb}
use Rattle.std.proofs.lemmas.Grind.{flat_map-append}
use Rattle.std.proofs.lemmas.List.{take_all, map-append}
use Rattle.std.proofs.lemmas.List.Elements.{All-weaker, recursion_from_All, All-from_recursion}
use Rattle.std.proofs.lemmas.List.Sums.{position_or_len_is}
use Rattle.std.proofs.lemmas.Slice.Eq.{ends_is}
use Rattle.percent_encoding.specs.Percent.{percent_decode}
use Rattle.percent_encoding.proofs.PercentLemmas.{IsByte, All-percent_decode, percent_decode-nil}
use Rattle.dav_path_core.specs.Segments.{slash_pieces, segments, is_nonempty}
use Rattle.dav_path_core.specs.Url.{url, url_byte}
use Rattle.dav_path_core.specs.Normal.{IsNormal}
use Rattle.dav_path_core.specs.PathReading.{Read, IsTarget, raw, decoded_pieces, path_of, ends_in_slash, is_idle, is_up, is_ordinary, IsForeign, Drops, Rewrites}
use Rattle.dav_path_core.specs.PathReading.IsDroppable.{idle}
use Rattle.dav_path_core.specs.PathReading.Rewrites.{none, more}
use Rattle.dav_path_core.proofs.paths.Rewriting.{AllOrdinary, AllOrdinary-from_reduced, not_idle, not_up}
use Rattle.dav_path_core.proofs.paths.KeptLemmas.{path_with_slash}
use Rattle.dav_path_core.proofs.paths.SlashedLemmas.{nothing_in_none}
use Rattle.dav_path_core.proofs.paths.Laws.{read_from}
use Rattle.dav_path_core.proofs.lists.Snoc.{by_last, snoc_last}
use Rattle.dav_path_core.proofs.paths.ParentLemmas.{HasNoSlash, IsSegment}
use Rattle.dav_path_core.proofs.paths.UrlLemmas.{IsSafe, safe_url}
use Rattle.dav_path_core.proofs.paths.PieceLemmas.{first_piece, pieces-at_slash, pieces-All, HasNoSlash-from_lack, decoded_pieces-url, pieces-closed, IsTail, Cuts, cuts_of}
use Rattle.dav_path_core.proofs.paths.PieceLemmas.IsTail.{closed, slashed}

-- ---- rewriting drops pieces alone

module _ (P : List ℕ → Type 0) where
  pub All-front : (xs ys : List (List ℕ)) → AllByRecursion P (xs ++ ys) → AllByRecursion P xs
  All-front [] ys h = tt
  All-front (x ∷ xs) ys h = (h.0, All-front xs ys h.1)

  pub All-back : (xs ys : List (List ℕ)) → AllByRecursion P (xs ++ ys) → AllByRecursion P ys
  All-back [] ys h = h
  All-back (x ∷ xs) ys h = All-back xs ys h.1

  pub All-both : (xs ys : List (List ℕ)) → AllByRecursion P xs → AllByRecursion P ys → AllByRecursion P (xs ++ ys)
  All-both [] ys h k = k
  All-both (x ∷ xs) ys h k = (h.0, All-both xs ys h.1 k)

  All-Drops : (xs ys : List (List ℕ)) → Drops xs ys → AllByRecursion P xs → AllByRecursion P ys
  All-Drops xs ys d h =
      let all = subst (AllByRecursion P) d.before h in
      subst (AllByRecursion P) (sym d.after)
      (All-both d.front d.back (All-front d.front (d.gone ++ d.back) all) (All-back d.gone d.back (All-back d.front (d.gone ++ d.back) all)))

  All-Rewrites : (xs ys : List (List ℕ)) → Rewrites xs ys → AllByRecursion P xs → AllByRecursion P ys
  All-Rewrites xs _ (none _) h = h
  All-Rewrites xs zs (more _ ys _ d r) h = All-Rewrites ys zs r (All-Drops xs ys d h)

each : (P Q : List ℕ → Type 0) (kept : List (List ℕ)) → ((piece : List ℕ) → P piece → Q piece) → AllByRecursion P kept → AllByRecursion Q kept
each P Q [] f h = tt
each P Q (piece ∷ kept) f h = (f piece h.0, each P Q kept f h.1)

-- ---- ordinary pieces

nonempty : (piece : List ℕ) → IsTrue (is_ordinary piece) → is_nonempty piece ≡ true
nonempty piece h =
    ⊎_elim
    (λ (e : is_nonempty piece ≡ true). e)
    (λ (e : is_nonempty piece ≡ false). absurd (not_idle (is_idle piece) (is_up piece) (rw e refl) h))
    (cases_Bool (is_nonempty piece))

not_empty : (piece : List ℕ) → IsTrue (is_ordinary piece) → piece ≢ []
not_empty piece h e = false≢true (sym (ap is_nonempty e) ∙ nonempty piece h)

not_dot : (piece : List ℕ) → IsTrue (is_ordinary piece) → piece ≢ codes "."
not_dot piece h e = not_idle (is_idle piece) (is_up piece) (ap is_idle e) h

not_dots : (piece : List ℕ) → IsTrue (is_ordinary piece) → piece ≢ codes ".."
not_dots piece h e = not_up (is_idle piece) (is_up piece) (ap is_up e) h

-- ---- the parts of a reading

-- what is known of the pieces that a reading keeps
pub record IsKept (piece : List ℕ) : Type 0 where
  pub ordinary : IsTrue (is_ordinary piece)
  pub clean : ¬ IsForeign piece
  pub bytes : AllByRecursion IsByte piece

bytes_decoded : (parts : List (List ℕ)) → AllByRecursion (AllByRecursion IsByte) parts → AllByRecursion (AllByRecursion IsByte) (map percent_decode parts)
bytes_decoded [] h = tt
bytes_decoded (part ∷ parts) h =
    (recursion_from_All IsByte (percent_decode part) (All-percent_decode part (All-from_recursion IsByte part h.0)), bytes_decoded parts h.1)

taken : (n : ℕ) (bs : List ℕ) → AllByRecursion IsByte bs → AllByRecursion IsByte (take n bs)
taken zero bs h = tt
taken (suc n) [] h = tt
taken (suc n) (b ∷ bs) h = (h.0, taken n bs h.1)

all_kept : (kept : List (List ℕ)) → AllOrdinary kept → AllByRecursion (λ piece. ¬ IsForeign piece) kept → AllByRecursion (AllByRecursion IsByte) kept → AllByRecursion IsKept kept
all_kept [] o c b = tt
all_kept (piece ∷ kept) o c b = (record { ordinary = o.0; clean = c.0; bytes = b.0 }, all_kept kept o.1 c.1 b.1)

kept_of : (text path : List ℕ) (r : Read text path) → AllByRecursion IsKept r.kept
kept_of text path r =
    let small : AllByRecursion IsByte text = recursion_from_All IsByte text (All-weaker (λ b. (32 ≤ b) × (b ≤ 126)) IsByte (λ b h. omega arith) text r.target.printable) in
    let parts = decoded_pieces (raw text) in
    all_kept r.kept (AllOrdinary-from_reduced r.kept r.reduced r.no_up)
    (All-Rewrites (λ piece. ¬ IsForeign piece) parts r.kept r.rewrites (recursion_from_All (λ piece. ¬ IsForeign piece) parts r.clean))
    (All-Rewrites (AllByRecursion IsByte) parts r.kept r.rewrites (bytes_decoded (slash_pieces (raw text)) (pieces-All IsByte (raw text) (taken _ text small))))

no_slashes : (kept : List (List ℕ)) → AllByRecursion IsKept kept → AllByRecursion HasNoSlash kept
no_slashes [] h = tt
no_slashes (piece ∷ kept) h = (HasNoSlash-from_lack piece (λ c. h.0.clean (inr c)), no_slashes kept h.1)

-- pieces that a reading keeps, and whether a slash stands behind them: the parts of a path that is read
pub record Parts (path : List ℕ) : Type 0 where
  pub kept : List (List ℕ)
  pub slash : Bool
  pub each : AllByRecursion IsKept kept
  pub whole : path ≡ path_of kept slash

pub parts_of : (text path : List ℕ) → Read text path → Parts path
parts_of text path r = record { kept = r.kept; slash = ends_in_slash (raw text); each = kept_of text path r; whole = r.path_is }

cuts : (path : List ℕ) (p : Parts path) → Cuts path p.kept
cuts path p = subst (λ l. Cuts l p.kept) (sym p.whole) (cuts_of p.kept p.slash (no_slashes p.kept p.each))

-- ---- what is read is normal

segment_of : (piece : List ℕ) → IsKept piece → IsSegment piece
segment_of piece k = record { nonempty = nonempty piece k.ordinary; clean = HasNoSlash-from_lack piece (λ c. k.clean (inr c)) }

kept_segments : (kept tail : List (List ℕ)) → AllByRecursion IsSegment kept → IsTail tail → filter is_nonempty (kept ++ tail) ≡ kept
kept_segments [] _ h closed = refl
kept_segments [] _ h slashed = refl
kept_segments (piece ∷ kept) tail h k = rw h.0.nonempty (ap (λ l. piece ∷ l) (kept_segments kept tail h.1 k))

-- the segments of a path, by its segments
pub segments-path_of : (kept : List (List ℕ)) (slash : Bool) → AllByRecursion IsSegment kept → segments (path_of kept slash) ≡ kept
unfolding segments
segments-path_of kept slash h =
    let c = cuts_of kept slash (each IsSegment HasNoSlash kept (λ piece s. s.clean) h) in
    ap (filter is_nonempty) c.pieces_are ∙ kept_segments kept c.tail h c.is_tail

pub segments_read : (path : List ℕ) (p : Parts path) → segments path ≡ p.kept
segments_read path p = ap segments p.whole ∙ segments-path_of p.kept p.slash (each IsKept IsSegment p.kept segment_of p.each)

tail_short : (tail : List (List ℕ)) → IsTail tail → length tail ≤ 1
tail_short _ closed = omega arith
tail_short _ slashed = omega arith

-- no empty piece has one behind it
no_gap : (kept tail front : List (List ℕ)) (q : List ℕ) (qs : List (List ℕ)) → AllByRecursion IsKept kept → length tail ≤ 1 → kept ++ tail ≡ front ++ [] ∷ q ∷ qs → ⊥
no_gap [] tail front q qs h short e = omega (arith, ap length e, length-append front ([] ∷ q ∷ qs))
no_gap (piece ∷ kept) tail [] q qs h short e = not_empty piece h.0.ordinary (cc)
no_gap (piece ∷ kept) tail (f ∷ front) q qs h short e =
    let rest : kept ++ tail ≡ front ++ [] ∷ q ∷ qs = cc in no_gap kept tail front q qs h.1 short rest

single : (path : List ℕ) → Parts path → (front back : List ℕ) → path ≢ front ++ 47 ∷ 47 ∷ back
single path r front back e =
    let c = cuts path r in
    let f = first_piece front in
    let b = first_piece back in
    let split : slash_pieces path ≡ f.0 ∷ (f.1 ++ [] ∷ b.0 ∷ b.1) =
    ap slash_pieces e ∙ pieces-at_slash front (47 ∷ back) ∙ ap (λ l. l ++ [] ∷ slash_pieces back) f.2 ∙ ap (λ l. f.0 ∷ (f.1 ++ [] ∷ l)) b.2 in
    let whole : [] ∷ (r.kept ++ c.tail) ≡ f.0 ∷ (f.1 ++ [] ∷ b.0 ∷ b.1) = sym c.pieces_are ∙ split in
    let rest : r.kept ++ c.tail ≡ f.1 ++ [] ∷ b.0 ∷ b.1 = cc in
    no_gap r.kept c.tail f.1 b.0 b.1 r.each (tail_short c.tail c.is_tail) rest

of_segments : (P : List ℕ → Type 0) (path : List ℕ) → ((piece : List ℕ) → IsKept piece → P piece) → Parts path → All P (segments path)
of_segments P path f p = subst (All P) (sym (segments_read path p)) (All-from_recursion P p.kept (each IsKept P p.kept f p.each))

pub read_is_normal : (text path : List ℕ) → Read text path → IsNormal path
read_is_normal text path r =
    let p = parts_of text path r in
    record {
      rooted = (_, r.path_is);
      single = single path p;
      no_dot = of_segments (λ s. s ≢ codes ".") path (λ piece k. not_dot piece k.ordinary) p;
      no_up = of_segments (λ s. s ≢ codes "..") path (λ piece k. not_dots piece k.ordinary) p;
      no_zero = of_segments (λ s. ¬ Contains s 0) path (λ piece k c. k.clean (inl c)) p;
    }

-- ---- and is read again from its URL spelling

raw_url : (bs : List ℕ) → raw (url bs) ≡ url bs
raw_url bs =
    let safe = safe_url bs in
    let parent_and_key = position_or_len_is (λ b. b == 63) (url bs) (length (url bs)) 0 (omega arith) (λ k lt. let s = safe k 0 lt in grind (arith, nat_tests)) (λ lt. absurd (omega arith)) in
    ap (λ n. take n (url bs)) parent_and_key ∙ take_all (length (url bs)) (url bs) (omega arith)

url_rooted : (rest : List ℕ) → url (47 ∷ rest) ≡ 47 ∷ url rest
unfolding url
url_rooted rest = refl

target_url : (rest : List ℕ) → IsTarget (url (47 ∷ rest))
target_url rest =
    let bs = 47 ∷ rest in
    record {
      printable = All-weaker IsSafe (λ b. (32 ≤ b) × (b ≤ 126)) (λ b s. (s.low, s.high)) (url bs) (safe_url bs);
      no_fragment = λ h. let c : Contains (url bs) 35 = subst (λ l. Contains l 35) (raw_url bs) h in (safe_url bs c.0 35 c.1).no_hash c.2;
      rooted = (url rest, raw_url bs ∙ url_rooted rest);
    }

rewritten : (kept tail : List (List ℕ)) → IsTail tail → Rewrites (kept ++ tail) kept
rewritten kept _ closed = subst (λ l. Rewrites l kept) (sym (append-nil kept)) (none kept)
rewritten kept _ slashed =
    more _ _ _ (record { front = kept; gone = [] ∷ []; back = []; droppable = idle [] refl; before = refl; after = sym (append-nil kept) }) (none kept)

empty_clean : ¬ IsForeign []
empty_clean = ⊎_elim (nothing_in_none 0) (nothing_in_none 47)

tail_all : (P : List ℕ → Type 0) (tail : List (List ℕ)) → P [] → IsTail tail → AllByRecursion P tail
tail_all P _ h closed = tt
tail_all P _ h slashed = (h, tt)

-- what holds of the empty piece and of each that is kept holds of each piece of the path
all_pieces : (P : List ℕ → Type 0) (path : List ℕ) (p : Parts path) → P [] → ((piece : List ℕ) → IsKept piece → P piece) → AllByRecursion P (slash_pieces path)
all_pieces P path p h f =
    let c = cuts path p in
    subst (AllByRecursion P) (sym c.pieces_are) (h, All-both P p.kept c.tail (each IsKept P p.kept f p.each) (tail_all P c.tail h c.is_tail))

decoded_again : (path : List ℕ) (p : Parts path) → decoded_pieces (url path) ≡ slash_pieces path
decoded_again path p = decoded_pieces-url path (all_pieces (AllByRecursion IsByte) path p tt (λ piece k. k.bytes))

same_ending : (kept : List (List ℕ)) (a b : Bool) → (0 < length kept → a ≡ b) → path_of kept a ≡ path_of kept b
same_ending [] true true h = refl
same_ending [] true false h = refl
same_ending [] false true h = refl
same_ending [] false false h = refl
same_ending (piece ∷ kept) a b h = ap (path_of (piece ∷ kept)) (h (omega arith))

url-append : (xs ys : List ℕ) → url (xs ++ ys) ≡ url xs ++ url ys
unfolding url
url-append xs ys = flat_map-append url_byte xs ys

url-slash : url (47 ∷ []) ≡ 47 ∷ []
unfolding url
url-slash = refl

last_not_empty : (kept front : List (List ℕ)) → AllByRecursion IsKept kept → 0 < length kept → [] ∷ kept ≡ front ++ [] ∷ [] → ⊥
last_not_empty kept front h long e =
    ⊎_elim
    (λ (nil : kept ≡ []). absurd (omega (arith, ap length nil)))
    (λ (l : (q : List (List ℕ)) × (s : List ℕ) × (kept ≡ q ++ s ∷ [])).
    let all = subst (AllByRecursion IsKept) l.2 h in
    let last : IsKept l.1 = (All-back IsKept l.0 (l.1 ∷ []) all).0 in
    not_empty l.1 last.ordinary (snoc_last ([] ∷ l.0) front l.1 [] (ap (λ k. [] ∷ k) (sym l.2) ∙ e)))
    (by_last kept)

ends_by : (kept : List (List ℕ)) (slash : Bool) → AllByRecursion IsKept kept → 0 < length kept → decoded_pieces (url (path_of kept slash)) ≡ slash_pieces (path_of kept slash) → ends_in_slash (url (path_of kept slash)) ≡ slash
ends_by kept true h long d =
    (ends_is Decides-eqb (url (path_of kept true)) (47 ∷ []) (ends_in_slash (url (path_of kept true))) refl).1 (url (flat_map (λ s. 47 ∷ s) kept))
    (ap url (sym (path_with_slash kept true (inl refl))) ∙ url-append (flat_map (λ s. 47 ∷ s) kept) (47 ∷ []) ∙ ap (λ l. url (flat_map (λ s. 47 ∷ s) kept) ++ l) url-slash)
ends_by kept false h long d =
    let spelled = url (path_of kept false) in
    let front = take (length spelled - 1) spelled in
    ⊎_elim
    (λ (yes : ends_in_slash spelled ≡ true).
    let cut : spelled ≡ front ++ 47 ∷ [] = (ends_is Decides-eqb spelled (47 ∷ []) (ends_in_slash spelled) refl).0 yes in
    let split : decoded_pieces spelled ≡ map percent_decode (slash_pieces front) ++ [] ∷ [] =
    ap decoded_pieces cut ∙ ap (map percent_decode) (pieces-at_slash front []) ∙ map-append percent_decode (slash_pieces front) ([] ∷ []) ∙ ap (λ l. map percent_decode (slash_pieces front) ++ l ∷ []) percent_decode-nil in
    absurd (last_not_empty kept (map percent_decode (slash_pieces front)) h long
    (ap (λ l. [] ∷ l) (sym (append-nil kept)) ∙ sym (pieces-closed kept (no_slashes kept h) long) ∙ sym d ∙ split)))
    (λ (other : ends_in_slash spelled ≡ false). other)
    (cases_Bool (ends_in_slash spelled))

-- a path of such parts is read from its URL spelling
pub readable : (path : List ℕ) → Parts path → Read (url path) path
readable path p =
    let c = cuts path p in
    let decoded = decoded_again path p in
    let spelled : decoded_pieces (url path) ≡ [] ∷ (p.kept ++ c.tail) = decoded ∙ c.pieces_are in
    let same : ends_in_slash (url (path_of p.kept p.slash)) ≡ ends_in_slash (url path) = ap (λ l. ends_in_slash (url l)) (sym p.whole) in
    read_from (url path) (url path) path p.kept
    (subst (λ l. IsTarget (url l)) (sym p.whole) (target_url _))
    (sym (raw_url path))
    (record {
      clean = All-from_recursion (λ piece. ¬ IsForeign piece) (decoded_pieces (url path)) (subst (AllByRecursion (λ piece. ¬ IsForeign piece)) (sym decoded) (all_pieces (λ piece. ¬ IsForeign piece) path p empty_clean (λ piece k. k.clean)));
      rewrites = subst (λ l. Rewrites l p.kept) (sym spelled)
          (more _ _ _ (record { front = []; gone = [] ∷ []; back = p.kept ++ c.tail; droppable = idle [] refl; before = refl; after = refl }) (rewritten p.kept c.tail c.is_tail));
      ordinary = All-from_recursion (λ piece. IsTrue (is_ordinary piece)) p.kept (each IsKept (λ piece. IsTrue (is_ordinary piece)) p.kept (λ piece k. k.ordinary) p.each);
    })
    (p.whole ∙ same_ending p.kept p.slash (ends_in_slash (url path)) (λ long. sym (ends_by p.kept p.slash p.each long (subst (λ l. decoded_pieces (url l) ≡ slash_pieces l) p.whole decoded)) ∙ same))

pub read_again : (text path : List ℕ) → Read text path → Read (url path) path
read_again text path r = readable path (parts_of text path r)
