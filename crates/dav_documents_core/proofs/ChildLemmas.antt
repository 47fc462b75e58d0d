-- Elements among nodes, as a loop over the nodes finds them.
use Rattle.std.proofs.Common.{◌≡◌, refl, sym, ap, subst, ◌∙◌, ℕ, zero, suc, ◌+◌, ◌-◌, ◌<◌, ◌≤◌, arith, List, [], ◌∷◌, ◌++◌, length, map, take, drop, get_or}
use Rattle.std.proofs.lemmas.List.{append_assoc, append-nil, length-map, length-take-le, drop-append-le, drop_all, drop_more, drop-map, drop-take, map_more, take-map}
use Rattle.dav_xml_core.specs.Documents.{Node, Start, Text, End}
use Rattle.dav_documents_core.specs.Elements.{elements_from}
use Rattle.dav_documents_core.specs.Private.Nesting.{depth_behind}

-- outside of an element nothing stands so far
outside : (a b nodes : List Node) → elements_from zero a nodes ≡ elements_from zero b nodes
outside a b [] = refl
outside a b (Start name attributes ∷ nodes) = refl
outside a b (Text text ∷ nodes) = refl
outside a b (End ∷ nodes) = refl

-- one node on, outside of an element
begins : (so_far : List Node) (node : Node) (nodes : List Node)
    → elements_from zero so_far (node ∷ nodes) ≡ elements_from (depth_behind zero node) (node ∷ []) nodes
begins so_far (Start name attributes) nodes = refl
begins so_far (Text text) nodes = outside [] (Text text ∷ []) nodes
begins so_far End nodes = outside [] (End ∷ []) nodes

-- inside of one, which doesn't end there
goes_on : (n m : ℕ) (so_far : List Node) (node : Node) (nodes : List Node) → depth_behind (suc n) node ≡ suc m
    → elements_from (suc n) so_far (node ∷ nodes) ≡ elements_from (depth_behind (suc n) node) (so_far ++ node ∷ []) nodes
goes_on n m so_far (Start name attributes) nodes h = refl
goes_on n m so_far (Text text) nodes h = refl
goes_on zero m so_far End nodes h = absurd (omega arith)
goes_on (suc n) m so_far End nodes h = refl

-- and which does
ends : (n : ℕ) (so_far : List Node) (node : Node) (nodes : List Node) → depth_behind (suc n) node ≡ 0
    → elements_from (suc n) so_far (node ∷ nodes) ≡ (so_far ++ node ∷ []) ∷ elements_from 0 (so_far ++ node ∷ []) nodes
ends n so_far (Start name attributes) nodes h = absurd (omega arith)
ends n so_far (Text text) nodes h = absurd (omega arith)
ends zero so_far End nodes h = ap (λ (rest : List (List Node)). (so_far ++ End ∷ []) ∷ rest) (outside [] (so_far ++ End ∷ []) nodes)
ends (suc n) so_far End nodes h = absurd (omega arith)

depth_grows : (depth at : ℕ) (node : Node) → depth ≤ at → depth_behind depth node ≤ at + 1
depth_grows depth at (Start name attributes) h = omega arith
depth_grows depth at (Text text) h = omega arith
depth_grows zero at End h = omega arith
depth_grows (suc depth) at End h = omega arith

-- ---- the loop

-- the nodes from the first one up to this
abbrev pub between : ℕ → ℕ → List Node → List Node
between first at nodes = drop first (take at nodes)

-- Up to this place these elements were found; so many have begun there and not ended, the outermost at the first place.
pub record Finds (nodes : List Node) (found : List (List Node)) (depth first at : ℕ) : Type 0 where
  pub within : depth ≤ at
  pub before : first ≤ at
  pub all : found ++ elements_from depth (between first at nodes) (drop at nodes) ≡ elements_from 0 [] nodes

-- a part of a slice, as the code takes it
pub part_between : {A : Type 0} (view : A → Node) (xs : List A) (first end : ℕ) → first ≤ end
    → map view (take (end - first) (drop first xs)) ≡ between first end (map view xs)
part_between view xs first end h =
    let whole : first + (end - first) ≡ end = omega arith in
    sym (take-map view (end - first) (drop first xs)) ∙ ap (take (end - first)) (sym (drop-map view first xs))
    ∙ sym (drop-take first (end - first) (map view xs)) ∙ ap (λ n. drop first (take n (map view xs))) whole

-- one iteration, at the node that `x` stands for
module _ {A : Type 0} (view : A → Node) (xs : List A) (at : ℕ) (x : A) (in_range : at < length xs) (item : x ≡ get_or xs at x) where
  abbrev nodes : List Node
  nodes = map view xs

  abbrev rest : List Node
  rest = drop (at + 1) nodes

  abbrev node : Node
  node = view x

  here : drop at nodes ≡ node ∷ rest
  here =
      drop-map view at xs ∙ ap (map view) (drop_more xs at x in_range) ∙ ap (λ (y : A). view y ∷ map view (drop (at + 1) xs)) (sym item)
      ∙ ap (λ (ys : List Node). node ∷ ys) (sym (drop-map view (at + 1) xs))

  taken : take (at + 1) nodes ≡ take at nodes ++ node ∷ []
  taken =
      take-map view (at + 1) xs ∙ map_more view xs at x in_range ∙ ap (λ (y : A). map view (take at xs) ++ view y ∷ []) (sym item)
      ∙ ap (λ (ys : List Node). ys ++ node ∷ []) (sym (take-map view at xs))

  many : length (take at nodes) ≡ at
  many = length-take-le at nodes (omega (arith, length-map xs view))

  one_more : (first : ℕ) → first ≤ at → between first (at + 1) nodes ≡ between first at nodes ++ node ∷ []
  one_more first before = ap (drop first) taken ∙ drop-append-le first (take at nodes) (node ∷ []) (omega (arith, many))

  just_one : between at (at + 1) nodes ≡ node ∷ []
  just_one = one_more at (omega arith) ∙ ap (λ (front : List Node). front ++ node ∷ []) (drop_all at (take at nodes) (omega (arith, many)))

  pub begin_there : (found : List (List Node)) (first : ℕ) → Finds nodes found 0 first at → Finds nodes found (depth_behind 0 node) at (at + 1)
  begin_there found first h = record {
    within = depth_grows 0 at node h.within;
    before = omega arith;
    all = ap (λ (so_far : List Node). found ++ elements_from (depth_behind 0 node) so_far rest) just_one
        ∙ ap (λ (es : List (List Node)). found ++ es) (sym (ap (elements_from 0 (between first at nodes)) here ∙ begins (between first at nodes) node rest)) ∙ h.all;
  }

  pub go_on : (found : List (List Node)) (first n m : ℕ) → depth_behind (suc n) node ≡ suc m → Finds nodes found (suc n) first at
      → Finds nodes found (depth_behind (suc n) node) first (at + 1)
  go_on found first n m e h = record {
    within = depth_grows (suc n) at node h.within;
    before = omega (arith, h.before);
    all = ap (λ (so_far : List Node). found ++ elements_from (depth_behind (suc n) node) so_far rest) (one_more first h.before)
        ∙ ap (λ (es : List (List Node)). found ++ es)
        (sym (ap (elements_from (suc n) (between first at nodes)) here ∙ goes_on n m (between first at nodes) node rest e)) ∙ h.all;
  }

  pub end_there : (found : List (List Node)) (first n : ℕ) → depth_behind (suc n) node ≡ 0 → Finds nodes found (suc n) first at
      → Finds nodes (found ++ between first (at + 1) nodes ∷ []) 0 first (at + 1)
  end_there found first n e h = record {
    within = omega arith;
    before = omega (arith, h.before);
    all = append_assoc found (between first (at + 1) nodes ∷ []) (elements_from 0 (between first (at + 1) nodes) rest)
        ∙ ap (λ (last : List Node). found ++ last ∷ elements_from 0 last rest) (one_more first h.before)
        ∙ ap (λ (es : List (List Node)). found ++ es)
        (sym (ap (elements_from (suc n) (between first at nodes)) here ∙ ends n (between first at nodes) node rest e)) ∙ h.all;
  }

  -- ---- by the tests of the loop

  pub begun : (found : List (List Node)) (depth first behind : ℕ) → Finds nodes found depth first at → depth ≡ 0 → behind ≡ depth_behind depth node
      → Finds nodes found behind at (at + 1)
  begun found zero first behind h outermost is = let P : ℕ → Type 0 = λ (n : ℕ). Finds nodes found n at (at + 1) in subst P (sym is) (begin_there found first h)
  begun found (suc n) first behind h outermost is = absurd (omega arith)

  pub gone_on : (found : List (List Node)) (depth first behind : ℕ) → Finds nodes found depth first at → 0 < depth → 0 < behind → behind ≡ depth_behind depth node
      → Finds nodes found behind first (at + 1)
  gone_on found zero first behind h inside more is = absurd (omega arith)
  gone_on found (suc n) first zero h inside more is = absurd (omega arith)
  gone_on found (suc n) first (suc m) h inside more is =
      let P : ℕ → Type 0 = λ (n : ℕ). Finds nodes found n first (at + 1) in subst P (sym is) (go_on found first n m (sym is) h)

  pub ended : (found : List (List Node)) (depth first behind : ℕ) → Finds nodes found depth first at → 0 < depth → behind ≡ 0 → behind ≡ depth_behind depth node
      → Finds nodes (found ++ between first (at + 1) nodes ∷ []) behind first (at + 1)
  ended found zero first behind h inside none is = absurd (omega arith)
  ended found (suc n) first behind h inside none is =
      let P : ℕ → Type 0 = λ (n : ℕ). Finds nodes (found ++ between first (at + 1) nodes ∷ []) n first (at + 1) in
      subst P (sym none) (end_there found first n (sym is ∙ none) h)
