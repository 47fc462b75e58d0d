-- Nodes in which each element ends, as a tree, and where a start stands among them.
use Rattle.std.proofs.Common.{◌≡◌, refl, sym, ap, subst, ◌∙◌, ℕ, zero, suc, true, ◌⊎◌, inl, inr, List, [], ◌∷◌, ◌++◌, append_assoc, append-nil}
use Rattle.std.proofs.lemmas.Bool.{false≢true}
use Rattle.dav_xml_core.specs.Documents.{Name, Attribute, Node, Start, Text, End, closes, is_element}
use Rattle.dav_documents_core.specs.Elements.{children, elements_from}
use Rattle.dav_documents_core.specs.ElementPlaces.{StartTag, open_behind}

-- texts and whole elements
pub data Forest : Type 0 where
  Nothing : Forest
  TextThen : List ℕ → Forest → Forest
  ElementThen : Name → List Attribute → Forest → Forest → Forest

-- its nodes
abbrev pub flat : Forest → List Node
flat Nothing = []
flat (TextThen text rest) = Text text ∷ flat rest
flat (ElementThen name attributes inside rest) = Start name attributes ∷ (flat inside ++
    (End ∷ flat rest))

-- the nodes of one element
abbrev pub element_of : Name → List Attribute → Forest → List Node
element_of name attributes inside = Start name attributes ∷ (flat inside ++ (End ∷ []))

-- ---- nodes that end each element are those of a tree

abbrev IsParted : ℕ → List Node → Type 0
IsParted zero nodes = nodes ≡ []
IsParted (suc n) nodes = (inside : Forest) × (rest : List Node)
    × (nodes ≡ flat inside ++ (End ∷ rest)) × IsParted n rest

part : (nodes : List Node) (n : ℕ) → closes n nodes ≡ true → IsParted n nodes
part [] zero h = refl
part [] (suc n) h = absurd (false≢true h)
part (node ∷ nodes) zero h = absurd (false≢true h)
part (Start name attributes ∷ nodes) (suc n) h =
    let p = part nodes (suc (suc n)) h in
    let q = p.3 in (
      ElementThen name attributes p.0 q.0,
      q.1,
      ap (λ (ns : List Node). Start name attributes ∷ ns)
          (p.2 ∙ ap (λ (ns : List Node). flat p.0 ++ (End ∷ ns)) q.2
          ∙ sym (append_assoc (flat p.0) (End ∷ flat q.0) (End ∷ q.1))),
      q.3,
    )
part (Text text ∷ nodes) (suc n) h =
    let p = part nodes (suc n) h in (
      TextThen text p.0,
      p.1,
      ap
          (λ (ns : List Node). Text text ∷ ns) p.2,
      p.3,
    )
part (End ∷ nodes) (suc n) h = (Nothing, nodes, refl, part nodes n h)

-- so is what is inside an element
pub whole_parts : (nodes : List Node) → is_element nodes ≡ true
    → (name : Name) × (attributes : List Attribute) × (inside : Forest)
    × (nodes ≡ element_of name attributes inside)
whole_parts [] h = absurd (false≢true h)
whole_parts (Start name attributes ∷ nodes) h =
    let p = part nodes 1 h in (
      name,
      attributes,
      p.0,
      ap (λ (ns : List Node). Start name attributes ∷ ns)
          (p.2 ∙ ap (λ (ns : List Node). flat p.0 ++ (End ∷ ns)) p.3),
    )
whole_parts (Text text ∷ nodes) h = absurd (false≢true h)
whole_parts (End ∷ nodes) h = absurd (false≢true h)

-- ---- what a tree leaves open: nothing

parts_behind : (inside rest : Forest) (more : List Node)
    → (flat inside ++ (End ∷ flat rest)) ++ more ≡ flat inside ++ (End ∷ (flat rest ++ more))
parts_behind inside rest more = append_assoc (flat inside) (End ∷ flat rest) more

pub flat_closes : (f : Forest) (n : ℕ) (more : List Node)
    → closes (suc n) (flat f ++ more) ≡ closes (suc n) more
flat_closes Nothing n more = refl
flat_closes (TextThen text rest) n more = flat_closes rest n more
flat_closes (ElementThen name attributes inside rest) n more =
    ap (closes (suc (suc n))) (parts_behind inside rest more)
    ∙ flat_closes inside (suc n) (End ∷ (flat rest ++ more)) ∙ flat_closes rest n more

pub flat_open : (f : Forest) (tags : List StartTag) (more : List Node)
    → open_behind tags (flat f ++ more) ≡ open_behind tags more
flat_open Nothing tags more = refl
flat_open (TextThen text rest) tags more = flat_open rest tags more
flat_open (ElementThen name attributes inside rest) tags more =
    let tag : StartTag = record { name = name; attributes = attributes } in
    ap (open_behind (tag ∷ tags)) (parts_behind inside rest more)
    ∙ flat_open inside (tag ∷ tags) (End ∷ (flat rest ++ more)) ∙ flat_open rest tags more

pub element_whole : (name : Name) (attributes : List Attribute) (inside : Forest)
    → is_element (element_of name attributes inside) ≡ true
element_whole name attributes inside = flat_closes inside 0 (End ∷ [])

-- ---- the elements of a tree

abbrev pub tops : Forest → List (List Node)
tops Nothing = []
tops (TextThen text rest) = tops rest
tops (ElementThen name attributes inside rest) = element_of name attributes inside ∷ tops rest

passed : (f : Forest) (n : ℕ) (so_far more : List Node)
    → elements_from (suc n) so_far (flat f ++ more) ≡ elements_from (suc n) (so_far ++ flat f) more
passed Nothing n so_far more = ap (λ (ns : List Node). elements_from (suc n) ns more)
    (sym (append-nil so_far))
passed (TextThen text rest) n so_far more =
    passed rest n (so_far ++ Text text ∷ []) more ∙ ap
    (λ (ns : List Node). elements_from (suc n) ns more)
    (append_assoc so_far (Text text ∷ []) (flat rest))
passed (ElementThen name attributes inside rest) n so_far more =
    let begun = so_far ++ Start name attributes ∷ [] in
    ap (elements_from (suc (suc n)) begun) (parts_behind inside rest more)
    ∙ passed inside (suc n) begun (End ∷ (flat rest ++ more))
    ∙ passed rest n ((begun ++ flat inside) ++ End ∷ []) more
    ∙ ap (λ (ns : List Node). elements_from (suc n) ns more)
    (ap (λ (ns : List Node). ns ++ flat rest) (append_assoc begun (flat inside) (End ∷ []))
    ∙ append_assoc begun (flat inside ++ End ∷ []) (flat rest)
    ∙ append_assoc so_far (Start name attributes ∷ []) ((flat inside ++ End ∷ []) ++ flat rest)
    ∙ ap (λ (ns : List Node). so_far ++ Start name attributes ∷ ns)
    (append_assoc (flat inside) (End ∷ []) (flat rest)))

tops_found : (f : Forest) (more : List Node) → elements_from zero [] (flat f ++ more)
    ≡ tops f ++ elements_from zero [] more
tops_found Nothing more = refl
tops_found (TextThen text rest) more = tops_found rest more
tops_found (ElementThen name attributes inside rest) more =
    ap (elements_from 1 (Start name attributes ∷ [])) (parts_behind inside rest more)
    ∙ passed inside 0 (Start name attributes ∷ []) (End ∷ (flat rest ++ more))
    ∙ ap (λ (es : List (List Node)). element_of name attributes inside ∷ es) (tops_found rest more)

pub children_found : (name : Name) (attributes : List Attribute) (inside : Forest)
    → children (element_of name attributes inside) ≡ tops inside
children_found name attributes inside = tops_found inside (End ∷ []) ∙ append-nil (tops inside)

-- ---- two parts of one list

pub two_parts : {A : Type 0} (xs ys us : List A) (v : A) (vs : List A) → xs ++ ys ≡ us ++ (v ∷ vs)
    → ((more : List A) × (us ≡ xs ++ more) × (ys ≡ more ++ (v ∷ vs)))
    ⊎ ((more : List A) × (xs ≡ us ++ (v ∷ more)))
two_parts [] ys us v vs h = inl (us, refl, h)
two_parts (x ∷ xs) ys [] v vs h = let same : x ≡ v = cc in inr (xs, ap (λ y. y ∷ xs) same)
two_parts (x ∷ xs) ys (u ∷ us) v vs h =
    let same : x ≡ u = cc in
    let others : xs ++ ys ≡ us ++ (v ∷ vs) = cc in
    elim (two_parts xs ys us v vs others) [
      | inl a ↦ inl (a.0, ap (λ l. u ∷ l) a.1 ∙ ap (λ y. y ∷ (xs ++ a.0)) (sym same), a.2)
      | inr b ↦ inr (b.0, ap (λ l. x ∷ l) b.1 ∙ ap (λ y. y ∷ (us ++ (v ∷ b.0))) same)
    ]

-- one element begins at a place
closed_alike : (n : ℕ) (xs ys us vs : List Node) → closes n xs ≡ true → closes n ys ≡ true
    → xs ++ us ≡ ys ++ vs → xs ≡ ys
closed_alike zero [] [] us vs h k same = refl
closed_alike zero [] (y ∷ ys) us vs h k same = absurd (false≢true k)
closed_alike zero (x ∷ xs) ys us vs h k same = absurd (false≢true h)
closed_alike (suc n) [] ys us vs h k same = absurd (false≢true h)
closed_alike (suc n) (x ∷ xs) [] us vs h k same = absurd (false≢true k)
closed_alike (suc n) (Start name attributes ∷ xs) (y ∷ ys) us vs h k same =
    let first : Start name attributes ≡ y = cc in
    let others : xs ++ us ≡ ys ++ vs = cc in
    let there = subst (λ (z : Node). closes (suc n) (z ∷ ys) ≡ true) (sym first) k in
    ap (λ z. z ∷ xs) first ∙ ap (λ l. y ∷ l) (closed_alike (suc (suc n)) xs ys us vs h there others)
closed_alike (suc n) (Text text ∷ xs) (y ∷ ys) us vs h k same =
    let first : Text text ≡ y = cc in
    let others : xs ++ us ≡ ys ++ vs = cc in
    let there = subst (λ (z : Node). closes (suc n) (z ∷ ys) ≡ true) (sym first) k in
    ap (λ z. z ∷ xs) first ∙ ap (λ l. y ∷ l) (closed_alike (suc n) xs ys us vs h there others)
closed_alike (suc n) (End ∷ xs) (y ∷ ys) us vs h k same =
    let first : End ≡ y = cc in
    let others : xs ++ us ≡ ys ++ vs = cc in
    let there = subst (λ (z : Node). closes (suc n) (z ∷ ys) ≡ true) (sym first) k in
    ap (λ z. z ∷ xs) first ∙ ap (λ l. y ∷ l) (closed_alike n xs ys us vs h there others)

pub one_whole : (xs ys us vs : List Node) → is_element xs ≡ true → is_element ys ≡ true
    → xs ++ us ≡ ys ++ vs → xs ≡ ys
one_whole [] ys us vs h k same = absurd (false≢true h)
one_whole (Text text ∷ xs) ys us vs h k same = absurd (false≢true h)
one_whole (End ∷ xs) ys us vs h k same = absurd (false≢true h)
one_whole (Start name attributes ∷ xs) [] us vs h k same = absurd (false≢true k)
one_whole (Start name attributes ∷ xs) (Text text ∷ ys) us vs h k same = absurd (false≢true k)
one_whole (Start name attributes ∷ xs) (End ∷ ys) us vs h k same = absurd (false≢true k)
one_whole (Start name attributes ∷ xs) (Start other others ∷ ys) us vs h k same =
    let first : Start name attributes ≡ Start other others = cc in
    let rest : xs ++ us ≡ ys ++ vs = cc in
    ap (λ z. z ∷ xs) first ∙ ap (λ l. Start other others ∷ l) (closed_alike 1 xs ys us vs h k rest)
