-- The parent of a path: its bytes, and its segments.
use Rattle.std.proofs.Common.{◌≡◌, ℕ, suc, ◌+◌, ◌-◌, ◌<◌, ◌≤◌, true, false, cond, List, [], ◌∷◌, ◌++◌, length, take, filter, refl, sym, ap, ◌∙◌, arith, append_assoc, append-nil, get_or, drop, length-append, length-take-le}
use Rattle.std.proofs.Math.Seq.{take-append_seam, drop-append_seam}
use Rattle.std.specs.List.{AllByRecursion, flat_map, onto_first}
use Rattle.std.proofs.lemmas.Bool.{cond_both}
use Rattle.std.proofs.lemmas.List.Elements.{All-from_recursion}
use Rattle.std.proofs.lemmas.List.{take_more}
use Rattle.std.proofs.lemmas.List.Splits.{slice_split_at}
use Rattle.dav_path_core.specs.Segments.{segments, slash_pieces, is_slash, is_nonempty}
use Rattle.dav_path_core.specs.Fronts.{Segment, Path, parent}
use Rattle.dav_path_core.specs.PathText.{folder_bytes}

-- no slash is among the bytes
abbrev pub HasNoSlash : Segment → Type 0
HasNoSlash s = AllByRecursion (λ b. is_slash b ≡ false) s

onto_first_clean : (b : ℕ) (parts : List (List ℕ)) → is_slash b ≡ false → AllByRecursion HasNoSlash parts → AllByRecursion HasNoSlash (onto_first b parts)
onto_first_clean b [] e h = ((e, tt), tt)
onto_first_clean b (part ∷ parts) e h = ((e, h.0), h.1)

pieces_clean : (bs : List ℕ) → AllByRecursion HasNoSlash (slash_pieces bs)
pieces_clean [] = (tt, tt)
pieces_clean (b ∷ bs) =
    cond_both (is_slash b) ([] ∷ slash_pieces bs) (onto_first b (slash_pieces bs)) (λ l. AllByRecursion HasNoSlash l)
    (λ e. (tt, pieces_clean bs))
    (λ e. onto_first_clean b (slash_pieces bs) e (pieces_clean bs))

-- what a segment is: not empty, and without a slash
pub record IsSegment (s : Segment) : Type 0 where
  pub nonempty : is_nonempty s ≡ true
  pub clean : HasNoSlash s

kept : (parts : List (List ℕ)) → AllByRecursion HasNoSlash parts → AllByRecursion IsSegment (filter is_nonempty parts)
kept [] h = tt
kept (part ∷ parts) h =
    cond_both (is_nonempty part) (part ∷ filter is_nonempty parts) (filter is_nonempty parts) (λ l. AllByRecursion IsSegment l)
    (λ e. (record { nonempty = e; clean = h.0 }, kept parts h.1))
    (λ e. kept parts h.1)

pub all_segments : (bs : List ℕ) → AllByRecursion IsSegment (segments bs)
unfolding segments
all_segments bs = kept (slash_pieces bs) (pieces_clean bs)

pieces_of_folder : (p : Path) → AllByRecursion IsSegment p → filter is_nonempty (slash_pieces (flat_map (λ s. s ++ 47 ∷ []) p)) ≡ p
pieces_of_folder [] h = refl
pieces_of_folder (s ∷ p) h =
    let rest = flat_map (λ s. s ++ 47 ∷ []) p in
    let split : slash_pieces ((s ++ 47 ∷ []) ++ rest) ≡ s ∷ slash_pieces rest =
    ap slash_pieces (append_assoc s (47 ∷ []) rest) ∙ slice_split_at is_slash s 47 rest (All-from_recursion (λ b. is_slash b ≡ false) s h.0.clean) refl in
    ap (filter is_nonempty) split ∙ ap (λ b. cond b (s ∷ filter is_nonempty (slash_pieces rest)) (filter is_nonempty (slash_pieces rest))) h.0.nonempty ∙ ap (λ l. s ∷ l) (pieces_of_folder p h.1)

-- the segments of a folder's bytes
pub segments-folder_bytes : (p : Path) → AllByRecursion IsSegment p → segments (folder_bytes p) ≡ p
unfolding segments
segments-folder_bytes p h = pieces_of_folder p h

pub parent-take : (p : Path) → take (length p - 1) p ≡ parent p
parent-take [] = refl
parent-take (s ∷ []) = refl
parent-take (s ∷ t ∷ p) =
    let two : length (s ∷ t ∷ p) - 1 ≡ suc (length (t ∷ p) - 1) = omega arith in
    ap (λ n. take n (s ∷ t ∷ p)) two ∙ ap (λ l. s ∷ l) (parent-take (t ∷ p))

parent_segments : (p : Path) → AllByRecursion IsSegment p → AllByRecursion IsSegment (parent p)
parent_segments [] h = tt
parent_segments (s ∷ []) h = tt
parent_segments (s ∷ t ∷ p) h = (h.0, parent_segments (t ∷ p) h.1)

-- the segments of the bytes of a path's parent
pub segments-parent : (bs : List ℕ) → segments (folder_bytes (parent (segments bs))) ≡ parent (segments bs)
segments-parent bs = segments-folder_bytes (parent (segments bs)) (parent_segments (segments bs) (all_segments bs))

-- one segment more, and the slash behind it
flat-push : (p : Path) (s : Segment) → flat_map (λ s. s ++ 47 ∷ []) (p ++ s ∷ []) ≡ flat_map (λ s. s ++ 47 ∷ []) p ++ (s ++ 47 ∷ [])
flat-push [] s = append-nil (s ++ 47 ∷ [])
flat-push (x ∷ p) s =
    ap (λ l. (x ++ 47 ∷ []) ++ l) (flat-push p s) ∙ sym (append_assoc (x ++ 47 ∷ []) (flat_map (λ s. s ++ 47 ∷ []) p) (s ++ 47 ∷ []))

pub folder_more : (prefix : List ℕ) (names : Path) (i : ℕ) (s : Segment) (old new : List ℕ) → i < length names → s ≡ get_or names i s → old ≡ prefix ++ folder_bytes (take i names) → new ≡ (old ++ s) ++ 47 ∷ []
    → new ≡ prefix ++ folder_bytes (take (i + 1) names)
folder_more prefix names i s old new lt at h e =
    let front = folder_bytes (take i names) in
    let more : folder_bytes (take (i + 1) names) ≡ front ++ (s ++ 47 ∷ []) =
    ap folder_bytes (take_more names i s lt ∙ ap (λ x. take i names ++ x ∷ []) (sym at)) ∙ ap (λ l. 47 ∷ l) (flat-push (take i names) s) in
    e ∙ ap (λ l. (l ++ s) ++ 47 ∷ []) h ∙ append_assoc (prefix ++ front) s (47 ∷ []) ∙ append_assoc prefix front (s ++ 47 ∷ []) ∙ ap (λ l. prefix ++ l) (sym more)

-- the parts of a parent's bytes
pub record IsParentOf (whole path : List ℕ) (n : ℕ) (names : Path) : Type 0 where
  pub room : n ≤ length path
  pub front : take n path ≡ take n whole
  pub back : drop n path ≡ folder_bytes (parent names)

pub parent_parts : (whole path : List ℕ) (n k : ℕ) (names : Path) → n ≤ length whole → path ≡ take n whole ++ folder_bytes (take k names) → k ≡ length names - 1 → IsParentOf whole path n names
parent_parts whole path n k names le e h =
    let prefix = take n whole in
    let long : length prefix ≡ n = length-take-le n whole le in
    let back : folder_bytes (take k names) ≡ folder_bytes (parent names) = ap (λ k. folder_bytes (take k names)) h ∙ ap folder_bytes (parent-take names) in
    record {
      room = let all : length path ≡ length prefix + length (folder_bytes (take k names)) = ap length e ∙ length-append prefix (folder_bytes (take k names)) in omega arith;
      front = ap (take n) e ∙ ap (λ i. take i (prefix ++ folder_bytes (take k names))) (sym long) ∙ take-append_seam prefix (folder_bytes (take k names));
      back = ap (drop n) e ∙ ap (λ i. drop i (prefix ++ folder_bytes (take k names))) (sym long) ∙ drop-append_seam prefix (folder_bytes (take k names)) ∙ back;
    }
