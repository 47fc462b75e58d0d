-- Elements stand in order, and so does what stands in each of them.
use Rattle.std.proofs.Common.{◌≡◌, sym, subst, ℕ, suc, ◌+◌, ◌≤◌, arith, inl, inr, List, [], ◌∷◌, ◌++◌, length, map}
use Rattle.std.specs.List.{AllPairs, flat_map}
use Rattle.std.proofs.lemmas.List.{length-append, map-append}
use Rattle.dav_path_core.proofs.lists.MemberLemmas.{In}
use Rattle.dav_path_core.proofs.paths.SubtreePaths.{Later, later_pairs}
use Rattle.dav_xml_core.specs.Documents.{Node, Start, Text, End}
use Rattle.dav_documents_core.specs.ElementPlaces.{ElementPlace, StandsBefore}
use Rattle.dav_documents_core.proofs.ForestLemmas.{Forest, Nothing, TextThen, ElementThen, element_of, flat}
use Rattle.dav_documents_core.proofs.ElementPlaceLemmas.{Spot, begun_at, below, element_at, place_at, spots}

-- each begins behind the one before, from a place on, and none behind another
abbrev pub IsOrdered : ℕ → ℕ → List ElementPlace → Type 0
IsOrdered low high [] = low ≤ high
IsOrdered low high (place ∷ places) = (low ≤ length place.before)
    × IsOrdered (suc (length place.before)) high places

-- and each ends before the next begins
abbrev pub AreBlocks : ℕ → ℕ → List Spot → Type 0
AreBlocks low high [] = low ≤ high
AreBlocks low high (s ∷ ss) = (low ≤ length s.before)
    × AreBlocks (length s.before + length (element_at s)) high ss

wider : (low lower high higher : ℕ) (ss : List Spot) → lower ≤ low → high ≤ higher
    → AreBlocks low high ss → AreBlocks lower higher ss
wider low lower high higher [] h k all = omega arith
wider low lower high higher (s ∷ ss) h k all =
    let from = length s.before + length (element_at s) in
    (omega (arith, all.0), wider from from high higher ss (omega arith) k all.1)

pub spots_blocks : (before : List Node) (f : Forest)
    → AreBlocks (length before) (length before + length (flat f)) (spots before f)
spots_blocks before Nothing = omega arith
spots_blocks before (TextThen text rest) =
    let all = before ++ (Text text ∷ []) in
    let long : length all ≡ length before + 1 = length-append before (Text text ∷ []) in
    wider (length all) (length before) (length all + length (flat rest))
    (length before + length (flat (TextThen text rest))) (spots all rest)
    (omega (arith, long)) (omega (arith, long)) (spots_blocks all rest)
spots_blocks before (ElementThen name attributes inside rest) =
    let element = element_of name attributes inside in
    let all = before ++ element in
    let long : length all ≡ length before + length element = length-append before element in
    let inner : length (flat inside ++ (End ∷ []))
    ≡ length (flat inside) + 1 = length-append (flat inside) (End ∷ []) in
    let whole : length (flat inside ++ (End ∷ flat rest))
    ≡ length (flat inside) + suc (length (flat rest)) =
    length-append (flat inside) (End ∷ flat rest) in (
      omega arith,
      wider (length all) (length before + length element) (length all + length (flat rest))
          (length before + length (flat (ElementThen name attributes inside rest))) (spots all rest)
          (omega (arith, long)) (omega (arith, long, inner, whole)) (spots_blocks all rest),
    )

pub below_blocks : (s : Spot) → AreBlocks (length s.before)
    (length s.before + length (element_at s)) (below s)
below_blocks s =
    let long : length (begun_at s) ≡ length s.before + 1 = length-append s.before
    (Start s.name s.attributes ∷ []) in
    let inner : length (flat s.inside ++ (End ∷ []))
    ≡ length (flat s.inside) + 1 = length-append (flat s.inside) (End ∷ []) in
    wider (length (begun_at s)) (length s.before) (length (begun_at s) + length (flat s.inside))
    (length s.before + length (element_at s)) (below s)
    (omega (arith, long)) (omega (arith, long, inner)) (spots_blocks (begun_at s) s.inside)

-- ---- what is gathered of each

joined : (low middle high : ℕ) (ps qs : List ElementPlace) → IsOrdered low middle ps
    → IsOrdered middle high qs → IsOrdered low high (ps ++ qs)
joined low middle high [] [] h k = omega (arith, h, k)
joined low middle high [] (q ∷ qs) h k = (omega (arith, h, k.0), k.1)
joined low middle high (p ∷ ps) qs h k = (
  h.0,
  joined
      (suc (length p.before)) middle high ps qs h.1 k,
)

raised : (low lower high : ℕ) (ps : List ElementPlace) → lower ≤ low → IsOrdered low high ps
    → IsOrdered lower high ps
raised low lower high [] h k = omega (arith, k)
raised low lower high (p ∷ ps) h k = (omega (arith, k.0), k.1)

pub gathered : {X : Type 0} (at : X → ElementPlace) (g : Spot → List X)
    → ((s : Spot) → IsOrdered (length s.before) (length s.before + length (element_at s))
    (map at (g s)))
    → (low high : ℕ) (ss : List Spot) → AreBlocks low high ss
    → IsOrdered low high (map at (flat_map g ss))
gathered at g each low high [] h = h
gathered at g each low high (s ∷ ss) h =
    let behind = length s.before + length (element_at s) in
    subst (IsOrdered low high) (sym (map-append at (g s) (flat_map g ss)))
    (joined low behind high (map at (g s)) (map at (flat_map g ss))
    (raised (length s.before) low behind (map at (g s)) h.0 (each s))
    (gathered at g each behind high ss h.1))

pub ordered_blocks : (low high : ℕ) (ss : List Spot) → AreBlocks low high ss
    → IsOrdered low high (map place_at ss)
ordered_blocks low high [] h = h
ordered_blocks low high (s ∷ ss) h = (
  h.0,
  raised (length s.before + length (element_at s)) (suc (length s.before)) high
      (map place_at ss) (omega arith) (ordered_blocks
      (length s.before + length (element_at s)) high ss h.1),
)

-- ---- one behind another

from_there : (low high : ℕ) (ps : List ElementPlace) (q : ElementPlace) → IsOrdered low high ps
    → In q ps → low ≤ length q.before
from_there low high [] q h i = absurd i
from_there low high (p ∷ ps) q h i = elim i [
  | inl e ↦ subst (λ (r : ElementPlace). low ≤ length r.before) e h.0
  | inr j ↦ (let later = from_there (suc (length p.before)) high ps q h.1 j in omega
      (arith, later, h.0))
]

later_ones : (low high : ℕ) (ps : List ElementPlace) → IsOrdered low high ps → Later StandsBefore ps
later_ones low high [] h = tt
later_ones low high (p ∷ ps) h = (
  (λ q i. let later = from_there (suc (length p.before)) high ps q h.1 i in omega
      (arith, later)),
  later_ones (suc (length p.before)) high ps h.1,
)

pub in_order : (low high : ℕ) (ps : List ElementPlace) → IsOrdered low high ps
    → AllPairs StandsBefore ps
in_order low high ps h = later_pairs StandsBefore ps (later_ones low high ps h)
