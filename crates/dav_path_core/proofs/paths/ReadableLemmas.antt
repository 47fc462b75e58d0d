-- Paths that their own URL spelling is read as: what stands above them, below them, behind a prefix, and elsewhere.
use Rattle.std.proofs.Common.{◌≡◌, ◌⊎◌, inl, inr, ℕ, ◌<◌, ◌≤◌, Bool, true, false, Some, List, [], ◌∷◌, ◌++◌, length, All, refl, sym, ap, ◌∙◌, subst, ⊎_elim, append_assoc, append-nil, length-append, arith}
use Rattle.std.specs.List.{AllByRecursion, flat_map}
use Rattle.std.proofs.lemmas.Bool.{true≢false}
use Rattle.std.proofs.lemmas.Bool.Decides.{Decides-eqb}
use Rattle.std.proofs.lemmas.List.Elements.{recursion_from_All}
use Rattle.std.proofs.lemmas.Slice.Eq.{ends_is}
use Rattle.percent_encoding.proofs.PercentLemmas.{IsByte}
use Rattle.dav_path_core.specs.Segments.{segments, is_slash}
use Rattle.dav_path_core.specs.Fronts.{Path, parent, behind}
use Rattle.dav_path_core.specs.PathText.{folder_bytes}
use Rattle.dav_path_core.specs.Prefix.{SetsPrefix}
use Rattle.dav_path_core.specs.Prefix.SetsPrefix.{cut, whole, front}
use Rattle.dav_path_core.specs.PathReading.{CanBeSegment, path_of, ends_in_slash}
use Rattle.dav_path_core.specs.Respelling.{IsReadAsItself}
use Rattle.dav_path_core.specs.Url.{url}
use Rattle.dav_path_core.specs.Private.Keeping.{behind_slashes}
use Rattle.dav_path_core.proofs.lists.Snoc.{by_last}
use Rattle.dav_path_core.proofs.paths.ChildLemmas.{slash_unless, no_slash-child}
use Rattle.dav_path_core.proofs.paths.FrontLemmas.{behind_is}
use Rattle.dav_path_core.proofs.paths.KeptLemmas.{path_with_slash, path_with_none}
use Rattle.dav_path_core.proofs.paths.ParentLemmas.{HasNoSlash, IsSegment, all_segments}
use Rattle.dav_path_core.proofs.paths.PieceLemmas.{HasNoSlash-from_lack}
use Rattle.dav_path_core.proofs.paths.ReadLaws.{IsKept, Parts, parts_of, readable, segments-path_of, segments_read, All-back, All-both}
use Rattle.dav_path_core.proofs.paths.SlashedLemmas.{slashed-push, slashed-some}

parts : (path : List ℕ) → IsReadAsItself path → Parts path
parts path r = parts_of (url path) path r

-- ---- segments that are kept

name_of : (piece : List ℕ) → IsKept piece → CanBeSegment piece
name_of piece k = record { ordinary = k.ordinary; clean = k.clean }

kept_of : (name : List ℕ) → CanBeSegment name → All IsByte name → IsKept name
kept_of name can bytes = record { ordinary = can.ordinary; clean = can.clean; bytes = recursion_from_All IsByte name bytes }

parent-All : (P : List ℕ → Type 0) (p : Path) → AllByRecursion P p → AllByRecursion P (parent p)
parent-All P [] h = tt
parent-All P (s ∷ []) h = tt
parent-All P (s ∷ t ∷ p) h = (h.0, parent-All P (t ∷ p) h.1)

behind-All : (P : List ℕ → Type 0) (from p rest : Path) → behind from p ≡ Some rest → AllByRecursion P p → AllByRecursion P rest
behind-All P from p rest e h = All-back P from rest (subst (AllByRecursion P) (behind_is from p rest e) h)

segments-kept : (path : List ℕ) → IsReadAsItself path → AllByRecursion IsKept (segments path)
segments-kept path r = let p = parts path r in subst (AllByRecursion IsKept) (sym (segments_read path p)) p.each

from_kept : (kept : Path) (slash : Bool) (path : List ℕ) → AllByRecursion IsKept kept → path ≡ path_of kept slash → IsReadAsItself path
from_kept kept slash path h e = readable path (record { kept = kept; slash = slash; each = h; whole = e })

-- ---- the parent

folder-slashed : (p : Path) → folder_bytes p ≡ behind_slashes p ++ 47 ∷ []
folder-slashed [] = refl
folder-slashed (s ∷ p) =
    let rest = flat_map (λ s. s ++ 47 ∷ []) p in
    let turned : s ++ (47 ∷ rest) ≡ s ++ (behind_slashes p ++ 47 ∷ []) = ap (λ l. s ++ l) (folder-slashed p) in
    ap (λ l. 47 ∷ l) (append_assoc s (47 ∷ []) rest ∙ turned ∙ sym (append_assoc s (behind_slashes p) (47 ∷ [])))

pub readable-parent : (path above : List ℕ) → above ≡ folder_bytes (parent (segments path)) → IsReadAsItself path → IsReadAsItself above
readable-parent path above e r =
    let up = parent (segments path) in
    from_kept up true above (parent-All IsKept (segments path) (segments-kept path r)) (e ∙ folder-slashed up ∙ path_with_slash up true (inl refl))

-- ---- a member

ends_slashed : (bs : List ℕ) → ends_in_slash (bs ++ 47 ∷ []) ≡ true
ends_slashed bs = (ends_is Decides-eqb (bs ++ 47 ∷ []) (47 ∷ []) (ends_in_slash (bs ++ 47 ∷ [])) refl).1 bs refl

ends_named : (kept : Path) → AllByRecursion IsKept kept → 0 < length kept → ends_in_slash (behind_slashes kept) ≡ false
ends_named kept h long = elim (by_last kept) [
  | inl none ↦ absurd (omega (arith, ap length none))
  | inr l ↦
      let last : IsKept l.1 = (All-back IsKept l.0 (l.1 ∷ []) (subst (AllByRecursion IsKept) l.2 h)).0 in
      let split : behind_slashes kept ≡ (behind_slashes l.0 ++ 47 ∷ []) ++ l.1 =
      ap behind_slashes l.2 ∙ slashed-push l.0 l.1 ∙ sym (append_assoc (behind_slashes l.0) (47 ∷ []) l.1) in
      ap ends_in_slash split ∙ no_slash-child (behind_slashes l.0 ++ 47 ∷ []) l.1 (name_of l.1 last)
]

-- a path with a slash put behind it, unless it ends in one
with_slash : (kept : Path) (slash ends : Bool) → AllByRecursion IsKept kept → ends ≡ ends_in_slash (path_of kept slash) → path_of kept slash ++ slash_unless ends ≡ behind_slashes kept ++ 47 ∷ []
with_slash kept true ends h e =
    let spelled = path_with_slash kept true (inl refl) in
    let yes : ends ≡ true = e ∙ ap ends_in_slash (sym spelled) ∙ ends_slashed (behind_slashes kept) in
    ap (λ b. path_of kept true ++ slash_unless b) yes ∙ append-nil (path_of kept true) ∙ sym spelled
with_slash [] false ends h e = ap (λ b. (47 ∷ []) ++ slash_unless b) e
with_slash (s ∷ kept) false ends h e =
    let spelled = path_with_none (s ∷ kept) false refl (omega arith) in
    let no : ends ≡ false = e ∙ ap ends_in_slash (sym spelled) ∙ ends_named (s ∷ kept) h (omega arith) in
    ap (λ b. path_of (s ∷ kept) false ++ slash_unless b) no ∙ ap (λ l. l ++ 47 ∷ []) (sym spelled)

pub readable-child : (path below name : List ℕ) (ends : Bool) → below ≡ path ++ (slash_unless ends ++ name) → ends ≡ ends_in_slash path → CanBeSegment name → All IsByte name → IsReadAsItself path → IsReadAsItself below
readable-child path below name ends e at can bytes r =
    let p = parts path r in
    let names = p.kept ++ name ∷ [] in
    let body : path ++ slash_unless ends ≡ behind_slashes p.kept ++ 47 ∷ [] =
    ap (λ l. l ++ slash_unless ends) p.whole ∙ with_slash p.kept p.slash ends p.each (at ∙ ap ends_in_slash p.whole) in
    from_kept names false below (All-both IsKept p.kept (name ∷ []) p.each (kept_of name can bytes, tt))
    (e ∙ sym (append_assoc path (slash_unless ends) name) ∙ ap (λ l. l ++ name) body ∙ append_assoc (behind_slashes p.kept) (47 ∷ []) name
    ∙ sym (slashed-push p.kept name) ∙ path_with_none names false refl (omega (arith, length-append p.kept (name ∷ []))))

-- ---- a path elsewhere

all_rebased : (P : List ℕ → Type 0) (from to p rest : Path) → behind from p ≡ Some rest → AllByRecursion P to → AllByRecursion P p → AllByRecursion P (to ++ rest)
all_rebased P from to p rest e h k = All-both P to rest h (behind-All P from p rest e k)

pub segments-rebased : (from to self path : List ℕ) (rest : Path) (slash : Bool) → behind (segments from) (segments self) ≡ Some rest → path ≡ path_of (segments to ++ rest) slash → segments path ≡ segments to ++ rest
segments-rebased from to self path rest slash e is =
    ap segments is ∙ segments-path_of (segments to ++ rest) slash (all_rebased IsSegment (segments from) (segments to) (segments self) rest e (all_segments to) (all_segments self))

pub readable-rebased : (from to self path : List ℕ) (rest : Path) (slash : Bool) → behind (segments from) (segments self) ≡ Some rest → path ≡ path_of (segments to ++ rest) slash → IsReadAsItself self → IsReadAsItself to → IsReadAsItself path
readable-rebased from to self path rest slash e is r t =
    from_kept (segments to ++ rest) slash path (all_rebased IsKept (segments from) (segments to) (segments self) rest e (segments-kept to t) (segments-kept self r)) is

-- ---- what stands behind a prefix

-- what stands from a slash on in pieces behind slashes
record IsBack (tail back : List ℕ) : Type 0 where
  names : Path
  each : AllByRecursion IsKept names
  is : back ≡ behind_slashes names ++ tail

back_tail : (tail q rest : List ℕ) → (tail ≡ []) ⊎ (tail ≡ 47 ∷ []) → tail ≡ q ++ 47 ∷ rest → 47 ∷ rest ≡ tail
back_tail tail [] rest h e = sym e
back_tail tail (b ∷ q) rest h e =
    let long : length tail ≤ 1 = ⊎_elim (λ n. omega (arith, ap length n)) (λ n. omega (arith, ap length n)) h in
    absurd (omega (arith, ap length e, length-append q (47 ∷ rest)))

-- a slash stands behind a name
past : (name back q rest : List ℕ) → HasNoSlash name → name ++ back ≡ q ++ 47 ∷ rest → (q' : List ℕ) × (back ≡ q' ++ 47 ∷ rest)
past [] back q rest h e = (q, e)
past (c ∷ name) back [] rest h e = let here : c ≡ 47 = cc in absurd (true≢false (sym (ap is_slash here) ∙ h.0))
past (c ∷ name) back (d ∷ q) rest h e = let more : name ++ back ≡ q ++ 47 ∷ rest = cc in past name back q rest h.1 more

back_of : (kept : Path) (tail q rest : List ℕ) → AllByRecursion IsKept kept → (tail ≡ []) ⊎ (tail ≡ 47 ∷ []) → behind_slashes kept ++ tail ≡ q ++ 47 ∷ rest → IsBack tail (47 ∷ rest)
back_of [] tail q rest h t e = record { names = []; each = tt; is = back_tail tail q rest t e }
back_of (s ∷ kept) tail [] rest h t e = record { names = s ∷ kept; each = h; is = sym e }
back_of (s ∷ kept) tail (b ∷ q) rest h t e =
    let inner : (s ++ behind_slashes kept) ++ tail ≡ q ++ 47 ∷ rest = cc in
    let later = past s (behind_slashes kept ++ tail) q rest (HasNoSlash-from_lack s (λ c. h.0.clean (inr c))) (sym (append_assoc s (behind_slashes kept) tail) ∙ inner) in
    back_of kept tail later.0 rest h.1 t later.1

from_back : (tail back : List ℕ) → (tail ≡ []) ⊎ (tail ≡ 47 ∷ []) → 0 < length back → IsBack tail back → IsReadAsItself back
from_back tail back (inr one) long b =
    from_kept b.names true back b.each (b.is ∙ ap (λ l. behind_slashes b.names ++ l) one ∙ path_with_slash b.names true (inl refl))
from_back tail back (inl none) long b =
    let bare : back ≡ behind_slashes b.names = b.is ∙ ap (λ l. behind_slashes b.names ++ l) none ∙ append-nil (behind_slashes b.names) in
    from_kept b.names false back b.each (bare ∙ path_with_none b.names false refl (slashed-some b.names back bare long))

spelled : (kept : Path) (slash : Bool) → (tail : List ℕ) × ((tail ≡ []) ⊎ (tail ≡ 47 ∷ [])) × (path_of kept slash ≡ behind_slashes kept ++ tail)
spelled kept true = (47 ∷ [], inr refl, sym (path_with_slash kept true (inl refl)))
spelled [] false = (47 ∷ [], inr refl, refl)
spelled (s ∷ kept) false = ([], inl refl, sym (path_with_none (s ∷ kept) false refl (omega arith)) ∙ sym (append-nil (behind_slashes (s ∷ kept))))

-- what stands from a slash on
readable-back : (path q rest : List ℕ) → path ≡ q ++ 47 ∷ rest → IsReadAsItself path → IsReadAsItself (47 ∷ rest)
readable-back path q rest e r =
    let p = parts path r in
    let t = spelled p.kept p.slash in
    from_back t.0 (47 ∷ rest) t.1 (omega arith) (back_of p.kept t.0 q rest p.each t.1 (sym t.2 ∙ sym p.whole ∙ e))

same_back : (prefix bytes rest : List ℕ) → prefix ++ bytes ≡ prefix ++ 47 ∷ rest → bytes ≡ 47 ∷ rest
same_back [] bytes rest e = e
same_back (b ∷ prefix) bytes rest e = let more : prefix ++ bytes ≡ prefix ++ 47 ∷ rest = cc in same_back prefix bytes rest more

-- what stands behind a prefix that is set
pub readable-behind : (before asked after prefix bytes : List ℕ) → SetsPrefix before asked after prefix → after ≡ prefix ++ bytes → IsReadAsItself before → IsReadAsItself bytes
readable-behind before asked after prefix bytes (cut rest e stem stays) is r =
    let split : before ≡ prefix ++ 47 ∷ rest = e ∙ ap (λ l. l ++ rest) stem ∙ append_assoc prefix (47 ∷ []) rest in
    subst IsReadAsItself (sym (same_back prefix bytes rest (sym is ∙ stays ∙ split))) (readable-back before prefix rest split r)
readable-behind before asked after prefix bytes (whole e ends same more) is r =
    from_kept [] true bytes tt (same_back prefix bytes [] (sym is ∙ more ∙ ap (λ l. l ++ 47 ∷ []) (e ∙ sym same)))
readable-behind before asked after prefix bytes (front rest e ends same stays) is r =
    let split : before ≡ prefix ++ 47 ∷ rest = e ∙ ap (λ l. l ++ 47 ∷ rest) (sym same) in
    subst IsReadAsItself (sym (same_back prefix bytes rest (sym is ∙ stays ∙ split))) (readable-back before prefix rest split r)
