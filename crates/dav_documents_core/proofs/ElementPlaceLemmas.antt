-- The elements right inside another, each at its place; and that each element of a document stands
-- right inside another, or deeper.
use Rattle.std.proofs.Common.{◌≡◌, refl, sym, ap, subst, ◌∙◌, ◌≤◌, ◌<◌, arith, ◌⊎◌, inl, inr, List, [], ◌∷◌, ◌++◌, length, map, append_assoc, append-nil}
use Rattle.std.specs.List.{AllByRecursion}
use Rattle.dav_path_core.proofs.lists.MemberLemmas.{In}
use Rattle.dav_xml_core.specs.Documents.{Name, Attribute, Node, Start, Text, End}
use Rattle.dav_documents_core.specs.Elements.{children}
use Rattle.dav_documents_core.specs.ElementPlaces.{ElementPlace, HasElementAt, StartTag, open_behind, without_innermost}
use Rattle.dav_documents_core.proofs.ForestLemmas.{Forest, Nothing, TextThen, ElementThen, children_found, element_of, element_whole, flat, flat_open, one_whole, tops, two_parts}

-- an element as a tree, and the nodes before it
pub record Spot : Type 0 where
  pub before : List Node
  pub name : Name
  pub attributes : List Attribute
  pub inside : Forest

abbrev pub element_at : Spot → List Node
element_at s = element_of s.name s.attributes s.inside

abbrev pub tag_at : Spot → StartTag
tag_at s = record { name = s.name; attributes = s.attributes }

abbrev pub place_at : Spot → ElementPlace
place_at s = record { before = s.before; element = element_at s }

-- up to its start, with it
abbrev pub begun_at : Spot → List Node
begun_at s = s.before ++ (Start s.name s.attributes ∷ [])

-- those of a tree behind nodes
abbrev pub spots : List Node → Forest → List Spot
spots before Nothing = []
spots before (TextThen text rest) = spots (before ++ (Text text ∷ [])) rest
spots before (ElementThen name attributes inside rest) =
    record { before = before; name = name; attributes = attributes; inside = inside } ∷ spots
    (before ++ element_of name attributes inside) rest

-- those right inside one
abbrev pub below : Spot → List Spot
below s = spots (begun_at s) s.inside

spots_tops : (before : List Node) (f : Forest) → map element_at (spots before f) ≡ tops f
spots_tops before Nothing = refl
spots_tops before (TextThen text rest) = spots_tops (before ++ (Text text ∷ [])) rest
spots_tops before (ElementThen name attributes inside rest) =
    ap (λ (es : List (List Node)). element_of name attributes inside ∷ es)
    (spots_tops (before ++ element_of name attributes inside) rest)

pub children_below : (s : Spot) → children (element_at s) ≡ map element_at (below s)
children_below s = children_found s.name s.attributes s.inside
    ∙ sym (spots_tops (begun_at s) s.inside)

-- ---- each stands in the document, with what is open there

pub open_joined : (tags : List StartTag) (xs ys : List Node)
    → open_behind tags (xs ++ ys) ≡ open_behind (open_behind tags xs) ys
open_joined tags [] ys = refl
open_joined tags (Start name attributes ∷ xs) ys =
    open_joined (record { name = name; attributes = attributes } ∷ tags) xs ys
open_joined tags (Text text ∷ xs) ys = open_joined tags xs ys
open_joined tags (End ∷ xs) ys = open_joined (without_innermost tags) xs ys

pub record IsSpotIn (nodes : List Node) (tags : List StartTag) (s : Spot) : Type 0 where
  pub behind : List Node
  pub split : nodes ≡ s.before ++ (element_at s ++ behind)
  pub around : open_behind [] s.before ≡ tags

pub stands_there : (nodes : List Node) (tags : List StartTag) (s : Spot) → IsSpotIn nodes tags s
    → HasElementAt nodes (place_at s)
stands_there nodes tags s h = record {
  behind = h.behind;
  split = h.split;
  whole = element_whole s.name s.attributes s.inside;
}

element_open : (tags : List StartTag) (name : Name) (attributes : List Attribute) (inside : Forest)
    → open_behind tags (element_of name attributes inside) ≡ tags
element_open tags name attributes inside = flat_open inside
    (record { name = name; attributes = attributes } ∷ tags) (End ∷ [])

one_part : (name : Name) (attributes : List Attribute) (inside rest : Forest) (more : List Node)
    → flat (ElementThen name attributes inside rest) ++ more
    ≡ element_of name attributes inside ++ (flat rest ++ more)
one_part name attributes inside rest more =
    ap (λ (ns : List Node). Start name attributes ∷ ns)
    (append_assoc (flat inside) (End ∷ flat rest) more
    ∙ sym (append_assoc (flat inside) (End ∷ []) (flat rest ++ more)))

spots_stand : (nodes before more : List Node) (tags : List StartTag) (f : Forest)
    → nodes ≡ before ++ (flat f ++ more) → open_behind [] before ≡ tags
    → AllByRecursion (IsSpotIn nodes tags) (spots before f)
spots_stand nodes before more tags Nothing is around = tt
spots_stand nodes before more tags (TextThen text rest) is around =
    spots_stand nodes (before ++ (Text text ∷ [])) more tags rest
    (is ∙ sym (append_assoc before (Text text ∷ []) (flat rest ++ more)))
    (open_joined [] before (Text text ∷ []) ∙ around)
spots_stand nodes before more tags (ElementThen name attributes inside rest) is around =
    let element = element_of name attributes inside in
    let split : nodes ≡ before ++ (element ++ (flat rest ++ more)) = is
    ∙ ap (λ (ns : List Node). before ++ ns) (one_part name attributes inside rest more) in (
      record { behind = flat rest ++ more; split = split; around = around },
      spots_stand nodes (before ++ element) more tags rest
          (split ∙ sym (append_assoc before element (flat rest ++ more)))
          (open_joined [] before element ∙ element_open
          (open_behind [] before) name attributes inside ∙ around),
    )

pub below_stand : (nodes : List Node) (tags : List StartTag) (s : Spot) → IsSpotIn nodes tags s
    → AllByRecursion (IsSpotIn nodes (tag_at s ∷ tags)) (below s)
below_stand nodes tags s h =
    let start = Start s.name s.attributes ∷ [] in
    spots_stand nodes (begun_at s) (End ∷ h.behind) (tag_at s ∷ tags) s.inside
    (h.split ∙ ap (λ (ns : List Node). s.before ++ (Start s.name s.attributes ∷ ns))
    (append_assoc (flat s.inside) (End ∷ []) h.behind)
    ∙ sym (append_assoc s.before start (flat s.inside ++ (End ∷ h.behind))))
    (open_joined [] s.before start ∙ ap (λ (ts : List StartTag). tag_at s ∷ ts) h.around)

-- ---- a start in a tree is that of one right there, or stands inside one

pub record IsInside (at : List Node) (name : Name) (attributes : List Attribute)
    (s : Spot) : Type 0 where
  pub front : List Node
  pub behind : List Node
  pub place : at ≡ begun_at s ++ front
  pub there : flat s.inside ≡ front ++ (Start name attributes ∷ behind)

abbrev pub IsFound : List Node → Name → List Attribute → List Spot → Type 0
IsFound at name attributes among = ((s : Spot) × In s among × (s.before ≡ at))
    ⊎ ((s : Spot) × In s among × IsInside at name attributes s)

further : (at : List Node) (name : Name) (attributes : List Attribute) (first : Spot)
    (among : List Spot) → IsFound at name attributes among
    → IsFound at name attributes (first ∷ among)
further at name attributes first among h = elim h [
  | inl a ↦ inl (a.0, inr a.1, a.2)
  | inr b ↦ inr (b.0, inr b.1, b.2)
]

end_moved : (before : List Node) (name : Name) (attributes : List Attribute) (inside : Forest)
    (more : List Node)
    → (before ++ (Start name attributes ∷ [])) ++ (flat inside ++ (End ∷ more))
    ≡ (before ++ element_of name attributes inside) ++ more
end_moved before name attributes inside more =
    append_assoc before (Start name attributes ∷ []) (flat inside ++ (End ∷ more))
    ∙ ap (λ (ns : List Node). before ++ (Start name attributes ∷ ns))
    (sym (append_assoc (flat inside) (End ∷ []) more))
    ∙ sym (append_assoc before (element_of name attributes inside) more)

found : (at : List Node) (name : Name) (attributes : List Attribute) (f : Forest)
    (before front behind : List Node) → at ≡ before ++ front
    → flat f ≡ front ++ (Start name attributes ∷ behind)
    → IsFound at name attributes (spots before f)
found at name attributes Nothing before [] behind is there = absurd (cc)
found at name attributes Nothing before (x ∷ front) behind is there = absurd (cc)
found at name attributes (TextThen text rest) before [] behind is there = absurd (cc)
found at name attributes (TextThen text rest) before (x ∷ front) behind is there =
    let first : Text text ≡ x = cc in
    let others : flat rest ≡ front ++ (Start name attributes ∷ behind) = cc in
    found at name attributes rest (before ++ (Text text ∷ [])) front behind
    (is ∙ ap (λ (y : Node). before ++ (y ∷ front)) (sym first)
    ∙ sym (append_assoc before (Text text ∷ []) front)) others
found at name attributes (ElementThen own owns inside rest) before [] behind is there =
    inl (
      record { before = before; name = own; attributes = owns; inside = inside },
      inl refl,
      sym (is ∙ append-nil before),
    )
found at name attributes (ElementThen own owns inside rest) before (x ∷ front) behind is there =
    let this : Spot = record { before = before; name = own; attributes = owns; inside = inside } in
    let first : Start own owns ≡ x = cc in
    let others : flat inside ++ (End ∷ flat rest) ≡ front ++
    (Start name attributes ∷ behind) = cc in
    let at_front : at ≡ (before ++ (Start own owns ∷ [])) ++ front =
    is ∙ ap (λ (y : Node). before ++ (y ∷ front)) (sym first)
    ∙ sym (append_assoc before (Start own owns ∷ []) front) in
    elim (two_parts (flat inside) (End ∷ flat rest) front (Start name attributes) behind others) [
      | inl past ↦ further at name attributes this
          (spots (before ++ element_of own owns inside) rest)
          (behind_end past.0 at_front past.1 past.2
          (λ more k e. found at name attributes rest
          (before ++ element_of own owns inside) more behind k e))
      | inr within ↦ inr (
        this,
        inl refl,
        record {
          front = front;
          behind = within.0;
          place = at_front;
          there = within.1;
        },
      )
    ]
  where
    behind_end : (more : List Node) → at ≡ (before ++ (Start own owns ∷ [])) ++ front
        → front ≡ flat inside ++ more → End ∷ flat rest ≡ more ++ (Start name attributes ∷ behind)
        → ((more : List Node) → at ≡ (before ++ element_of own owns inside) ++ more
        → flat rest ≡ more ++ (Start name attributes ∷ behind)
        → IsFound at name attributes (spots (before ++ element_of own owns inside) rest))
        → IsFound at name attributes (spots (before ++ element_of own owns inside) rest)
    behind_end [] is e k next = absurd (cc)
    behind_end (y ∷ more) is e k next =
        let first : End ≡ y = cc in
        let others : flat rest ≡ more ++ (Start name attributes ∷ behind) = cc in
        next more (is ∙ ap (λ (ns : List Node). (before ++ (Start own owns ∷ [])) ++ ns)
        (e ∙ ap (λ (z : Node). flat inside ++ (z ∷ more)) (sym first))
        ∙ end_moved before own owns inside more) others

pub found_below : (at : List Node) (name : Name) (attributes : List Attribute) (s : Spot)
    → IsInside at name attributes s → IsFound at name attributes (below s)
found_below at name attributes s h = found at name attributes s.inside
    (begun_at s) h.front h.behind h.place h.there

-- ---- inside an element it is open

grown : (tags : List StartTag) (name : Name) (attributes : List Attribute) (f : Forest)
    (front behind : List Node) → flat f ≡ front ++ (Start name attributes ∷ behind)
    → length tags ≤ length (open_behind tags front)
grown tags name attributes Nothing [] behind there = absurd (cc)
grown tags name attributes Nothing (x ∷ front) behind there = absurd (cc)
grown tags name attributes (TextThen text rest) [] behind there = omega arith
grown tags name attributes (TextThen text rest) (x ∷ front) behind there =
    let first : Text text ≡ x = cc in
    let others : flat rest ≡ front ++ (Start name attributes ∷ behind) = cc in
    subst (λ (y : Node). length tags ≤ length (open_behind tags (y ∷ front))) first
    (grown tags name attributes rest front behind others)
grown tags name attributes (ElementThen own owns inside rest) [] behind there = omega arith
grown tags name attributes (ElementThen own owns inside rest) (x ∷ front) behind there =
    let tag : StartTag = record { name = own; attributes = owns } in
    let first : Start own owns ≡ x = cc in
    let others : flat inside ++ (End ∷ flat rest) ≡ front ++
    (Start name attributes ∷ behind) = cc in
    subst (λ (y : Node). length tags ≤ length (open_behind tags (y ∷ front))) first
    (elim (two_parts (flat inside) (End ∷ flat rest) front (Start name attributes) behind others) [
      | inl past ↦ subst (λ (ns : List Node). length tags ≤ length (open_behind (tag ∷ tags) ns))
          (sym past.1)
          (rw (flat_open inside (tag ∷ tags) past.0)
          (behind_end past.0 past.2 (λ more e. grown tags name attributes rest more behind e)))
      | inr within ↦ let deep = grown
          (tag ∷ tags) name attributes inside front within.0 within.1 in omega (arith, deep)
    ])
  where
    behind_end : (more : List Node) → End ∷ flat rest ≡ more ++ (Start name attributes ∷ behind)
        → ((more : List Node) → flat rest ≡ more ++ (Start name attributes ∷ behind)
        → length tags ≤ length (open_behind tags more))
        → length tags ≤ length (open_behind (record { name = own; attributes = owns } ∷ tags) more)
    behind_end [] k next = omega arith
    behind_end (y ∷ more) k next =
        let first : End ≡ y = cc in
        let others : flat rest ≡ more ++ (Start name attributes ∷ behind) = cc in
        subst (λ (z : Node). length tags ≤ length (open_behind
        (record { name = own; attributes = owns } ∷ tags) (z ∷ more))) first (next more others)

pub deeper : (nodes : List Node) (tags : List StartTag) (s : Spot) (at : List Node) (name : Name)
    (attributes : List Attribute) → IsSpotIn nodes tags s → IsInside at name attributes s
    → length tags < length (open_behind [] at)
deeper nodes tags s at name attributes h inside =
    let is : open_behind [] at ≡ open_behind (tag_at s ∷ open_behind [] s.before) inside.front =
    ap (open_behind []) inside.place ∙ open_joined [] (begun_at s) inside.front
    ∙ ap (λ (ts : List StartTag). open_behind ts inside.front)
    (open_joined [] s.before (Start s.name s.attributes ∷ [])) in
    let more = grown
    (tag_at s ∷ open_behind [] s.before) name attributes s.inside inside.front inside.behind inside.there in
    rw is (omega (arith, more, ap length h.around))

-- ---- one place

pub same_place : (nodes : List Node) (tags : List StartTag) (s : Spot) (place : ElementPlace)
    → IsSpotIn nodes tags s → HasElementAt nodes place → s.before ≡ place.before → place_at s ≡ place
same_place nodes tags s place h there same =
    let ends : s.before ++ (element_at s ++ h.behind)
    ≡ s.before ++ (place.element ++ there.behind) =
    sym h.split ∙ there.split ∙ ap (λ (ns : List Node). ns ++ (place.element ++ there.behind))
    (sym same) in
    let element = one_whole (element_at s) place.element h.behind there.behind
    (element_whole s.name s.attributes s.inside) there.whole
    (without_front s.before _ _ ends) in
    ap (λ (ns : List Node). record { before = ns; element = element_at s }) same
    ∙ ap (λ (ns : List Node). record { before = place.before; element = ns }) element
  where
    without_front : (xs ys zs : List Node) → xs ++ ys ≡ xs ++ zs → ys ≡ zs
    without_front [] ys zs e = e
    without_front (x ∷ xs) ys zs e = let rest : xs ++ ys
        ≡ xs ++ zs = cc in without_front xs ys zs rest
