-- What a PROPPATCH asks for is what its body has: each property at its place, in order, and none is
-- left out.
use Rattle.std.proofs.Common.{◌≡◌, refl, sym, ap, subst, ◌∙◌, ℕ, suc, ◌+◌, ◌^◌, ◌<◌, arith, Bool, true, false, cond, inl, inr, List, [], ◌∷◌, ◌++◌, length, map, Option, None, Some, codes, Contains}
use Rattle.std.specs.Prelude.{if◌then◌else◌}
use Rattle.std.specs.List.{AllByRecursion, AllZip, flat_map}
use Rattle.std.proofs.lemmas.List.{map-append}
use Rattle.std.proofs.lemmas.Option.{same_Some}
use Rattle.dav_path_core.proofs.lists.MemberLemmas.{In, Contains-In, all_in}
use Rattle.dav_path_core.proofs.paths.SubtreePaths.{in_left, in_right}
use Rattle.dav_xml_core.specs.Documents.{Name, Node}
use Rattle.dav_xml_core.specs.Optional.{◌>>=◌, choose, when}
use Rattle.dav_xml_core.specs.Reading.{document_of}
use Rattle.dav_xml_core.specs.Writing.{written_alone}
use Rattle.dav_xml_core.proofs.ElementLemmas.{bind_some, when_some}
use Rattle.dav_xml_core.proofs.ReadNodesLemmas.{read_could, read_room}
use Rattle.dav_documents_core.specs.Elements.{children, is_dav, is_dav_name}
use Rattle.dav_documents_core.specs.ElementPlaces.{ElementPlace, HasElementAt, StartTag, element_with_lang, open_behind, tags_around}
use Rattle.dav_documents_core.specs.KeptReading.{WasRead}
use Rattle.dav_documents_core.specs.PropertyUpdates.{Update, instructed_updates, own_lang, sets, updates_by, updates_in, updates_of}
use Rattle.dav_documents_core.specs.RefusalBodies.{dav_name}
use Rattle.dav_documents_core.specs.SentUpdates.{AreSentUpdates, IsPropertyOf, IsUpdateAt, names_around_property}
use Rattle.dav_documents_core.proofs.AskedPropertyLemmas.{IsAsked, all_there, asked, asked_of, asked_ordered, instructed_are, place_of, props_in, update_at}
use Rattle.dav_documents_core.proofs.ElementPlaceLemmas.{IsInside, Spot, below, children_below, deeper, element_at, found_below, place_at, same_place, stands_there, tag_at}
use Rattle.dav_documents_core.proofs.ForestLemmas.{element_of}
use Rattle.dav_documents_core.proofs.PlaceOrderLemmas.{in_order}
use Rattle.dav_documents_core.proofs.RootPlaceLemmas.{IsRoot, IsStart, dav_is, inside_root, root_of, same_length, start_of}
use Rattle.dav_documents_core.proofs.ReadPlaceLemmas.{IsReadSpot, below_read, told_again}

-- ---- each is the property at its place

sets_is : (i : Spot) (set : Bool) → sets (element_at i) ≡ Some set
    → i.name ≡ dav_name (if set then codes "set" else codes "remove")
sets_is i set h = by (is_dav_name (codes "set") i.name)
    (is_dav_name (codes "remove") i.name) refl refl h
  where
    by : (b c : Bool) → is_dav_name (codes "set") i.name ≡ b
        → is_dav_name (codes "remove") i.name ≡ c → cond b (Some true) (cond c (Some false) None)
        ≡ Some set
        → i.name ≡ dav_name (if set then codes "set" else codes "remove")
    by true c is other h =
        dav_is (codes "set") i.name is ∙ ap (λ (b : Bool). dav_name
        (if b then codes "set" else codes "remove")) (same_Some true set h)
    by false true unset is h =
        dav_is (codes "remove") i.name is ∙ ap (λ (b : Bool). dav_name
        (if b then codes "set" else codes "remove")) (same_Some false set h)
    by false false unset kept h = absurd (cc)

is_set : (i : Spot) (set : Bool) → i.name ≡ dav_name (if set then codes "set" else codes "remove")
    → sets (element_at i) ≡ Some set
is_set i true h = ap (λ (name : Name). sets (element_of name i.attributes i.inside)) h
is_set i false h = ap (λ (name : Name). sets (element_of name i.attributes i.inside)) h

asked_at : (nodes : List Node) (root : Spot) (a : Bool × Spot)
    → root.name ≡ dav_name (codes "propertyupdate") → IsAsked nodes root a
    → IsUpdateAt nodes (place_of a) (update_at a)
asked_at nodes root a named h = record {
  property = record {
    stands = stands_there nodes
        (tag_at h.prop ∷ tag_at h.instruction ∷ tag_at root ∷ []) a.1 h.stands.spot;
    within = ap (map (λ (tag : StartTag). tag.name)) h.stands.spot.around
        ∙ ap (λ (name : Name). name ∷ h.instruction.name ∷ root.name ∷ [])
        (dav_is (codes "prop") h.prop.name h.is_prop)
        ∙ ap (λ (name : Name). dav_name (codes "prop") ∷ name ∷ root.name ∷ [])
        (sets_is h.instruction a.0 h.instructs)
        ∙ ap (λ (name : Name). dav_name (codes "prop") ∷ dav_name
        (if a.0 then codes "set" else codes "remove") ∷ name ∷ []) named;
  };
  name = a.1.name;
  named = refl;
  kept = refl;
  is_read = λ xml is. by a.0 xml is (told_again nodes
      (tag_at h.prop ∷ tag_at h.instruction ∷ tag_at root ∷ []) a.1 h.stands);
}
  where
    by : (set : Bool) (xml : List ℕ) → (if set then Some
        (written_alone (element_with_lang (place_at a.1))) else None) ≡ Some xml
        → document_of (written_alone (element_with_lang (place_at a.1)))
        ≡ Some (element_with_lang (place_at a.1))
        → document_of xml ≡ Some (element_with_lang (place_at a.1))
    by true xml is again = ap document_of (sym (same_Some
        (written_alone (element_with_lang (place_at a.1))) xml is)) ∙ again
    by false xml is again = absurd (cc)

each_at : (nodes : List Node) (root : Spot) (each : List (Bool × Spot))
    → root.name ≡ dav_name (codes "propertyupdate") → AllByRecursion (IsAsked nodes root) each
    → AllZip (IsUpdateAt nodes) (map place_of each) (map update_at each)
each_at nodes root [] named h = tt
each_at nodes root (a ∷ each) named h = (
  asked_at nodes root a named h.0,
  each_at nodes root each named h.1,
)

-- ---- they are what the definition finds

instructed_all : (nodes : List Node) (root : Spot) (instructions : List Spot)
    (updates : List Update) → AllByRecursion (IsReadSpot nodes (tag_at root ∷ [])) instructions
    → updates_by (own_lang (element_at root)) (map element_at instructions) ≡ Some updates
    → updates ≡ map update_at (flat_map asked_of instructions)
instructed_all nodes root [] updates h is = sym (same_Some [] updates is)
instructed_all nodes root (i ∷ instructions) updates h is =
    let lang = own_lang (element_at root) in
    let first = bind_some (instructed_updates lang (element_at i))
    (λ first. updates_by lang (map element_at instructions) >>= λ others. Some
    (first ++ others)) updates is in
    let others = bind_some (updates_by lang (map element_at instructions))
    (λ others. Some (first.0 ++ others)) updates first.2 in
    sym (same_Some (first.0 ++ others.0) updates others.2)
    ∙ ap (λ (us : List Update). us ++ others.0) (instructed_are nodes root i first.0 h.0 first.1)
    ∙ ap (λ (us : List Update). map update_at (asked_of i) ++ us)
    (instructed_all nodes root instructions others.0 h.1 others.1)
    ∙ sym (map-append update_at (asked_of i) (flat_map asked_of instructions))

updates_there : (nodes : List Node) (root : Spot) (updates : List Update) → IsRoot nodes root
    → updates_of nodes ≡ Some updates
    → (root.name ≡ dav_name (codes "propertyupdate")) × (updates ≡ map update_at (asked root))
updates_there nodes root updates h is =
    let there : updates_of (element_at root) ≡ Some updates = ap updates_of (sym h.all) ∙ is in
    let inside = bind_some (when (is_dav (codes "propertyupdate") (element_at root))
    (children (element_at root))) (updates_by (own_lang (element_at root))) updates there in
    let w = when_some (is_dav (codes "propertyupdate") (element_at root))
    (children (element_at root)) inside.0 inside.1 in (
      dav_is (codes "propertyupdate") root.name w.0,
      instructed_all nodes root (below root) updates (below_read nodes [] root h.is)
          (ap (updates_by (own_lang (element_at root))) (sym (children_below root) ∙ w.1)
          ∙ inside.2),
    )

-- ---- none is left out

-- the elements around a property, from its own to the root
record IsNested (root : Spot) (place : ElementPlace) : Type 0 where
  instruction : Spot
  prop : Spot
  property : Spot
  first : In instruction (below root)
  second : In prop (below instruction)
  third : In property (below prop)
  is : place_at property ≡ place

module _ (nodes : List Node) (root : Spot) (h : IsRoot nodes root) (place : ElementPlace)
    (stands : HasElementAt nodes place) (three : length (tags_around place) ≡ 3) where
  start : IsStart nodes place
  start = start_of nodes place stands

  there : (tags : List StartTag) (s : Spot) → IsReadSpot nodes tags s → s.before ≡ place.before
      → length tags ≡ 3
  there tags s is same = ap length (sym is.spot.around)
      ∙ ap (λ (ns : List Node). length (open_behind [] ns)) same ∙ three

  third_level : (tags : List StartTag) (i p : Spot) → length tags ≡ 2 → In i (below root)
      → In p (below i) → IsReadSpot nodes tags p
      → IsInside place.before start.name start.attributes p → IsNested root place
  third_level tags i p two first second is inside =
      let each = below_read nodes tags p is in
      elim (found_below place.before start.name start.attributes p inside) [
        | inl a ↦ record {
          instruction = i;
          prop = p;
          property = a.0;
          first = first;
          second = second;
          third = a.1;
          is = same_place nodes (tag_at p ∷ tags) a.0 place
              (all_in (IsReadSpot nodes (tag_at p ∷ tags)) (below p) a.0 each a.1).spot stands a.2;
        }
        | inr b ↦ (
            let long = deeper nodes (tag_at p ∷ tags) b.0 place.before start.name start.attributes
            (all_in (IsReadSpot nodes (tag_at p ∷ tags)) (below p) b.0 each b.1).spot b.2 in
            absurd (omega (arith, long, three, two)))
      ]

  second_level : (tags : List StartTag) (i : Spot) → length tags ≡ 1 → In i (below root)
      → IsReadSpot nodes tags i
      → IsInside place.before start.name start.attributes i → IsNested root place
  second_level tags i one first is inside =
      let each = below_read nodes tags i is in
      elim (found_below place.before start.name start.attributes i inside) [
        | inl a ↦ (let three_tags = there (tag_at i ∷ tags) a.0
            (all_in (IsReadSpot nodes (tag_at i ∷ tags)) (below i) a.0 each a.1) a.2 in absurd
            (omega (arith, three_tags, one)))
        | inr b ↦ third_level (tag_at i ∷ tags) i b.0 (ap suc one) first b.1
            (all_in (IsReadSpot nodes (tag_at i ∷ tags)) (below i) b.0 each b.1) b.2
      ]

  first_level : IsInside place.before start.name start.attributes root → IsNested root place
  first_level inside =
      let each = below_read nodes [] root h.is in
      elim (found_below place.before start.name start.attributes root inside) [
        | inl a ↦ (let three_tags = there (tag_at root ∷ []) a.0
            (all_in (IsReadSpot nodes (tag_at root ∷ [])) (below root) a.0 each a.1) a.2 in absurd
            (omega (arith, three_tags)))
        | inr b ↦ second_level (tag_at root ∷ []) b.0 refl b.1
            (all_in (IsReadSpot nodes (tag_at root ∷ [])) (below root) b.0 each b.1) b.2
      ]

  nested : IsNested root place
  nested = elim (inside_root root start.name start.attributes place.before start.behind h.first
      (sym h.all ∙ start.split)) [
        | inl none ↦ (let no_tags : length (tags_around place) ≡ 0 = ap
            (λ (ns : List Node). length (open_behind [] ns)) none in absurd
            (omega (arith, no_tags, three)))
        | inr inside ↦ first_level inside
      ]

in_gathered : {A B : Type 0} (g : A → List B) (xs : List A) (x : A) (y : B) → In x xs → In y (g x)
    → In y (flat_map g xs)
in_gathered g [] x y i j = absurd i
in_gathered g (z ∷ xs) x y i j = elim i [
  | inl e ↦ in_left y (g z) (flat_map g xs) (subst (λ w. In y (g w)) (sym e) j)
  | inr k ↦ in_right y (g z) (flat_map g xs) (in_gathered g xs x y k j)
]

in_mapped : {A B : Type 0} (f : A → B) (xs : List A) (x : A) → In x xs → In (f x) (map f xs)
in_mapped f [] x i = absurd i
in_mapped f (y ∷ xs) x i = elim i [ inl e ↦ inl (ap f e) | inr j ↦ inr (in_mapped f xs x j) ]

is_prop : (p : Spot) → p.name ≡ dav_name (codes "prop")
    → is_dav (codes "prop") (element_at p) ≡ true
is_prop p h = ap (is_dav_name (codes "prop")) h

asked_there : (set : Bool) (root i p s : Spot) → In i (below root) → In p (below i) → In s (below p)
    → i.name ≡ dav_name (if set then codes "set" else codes "remove")
    → p.name ≡ dav_name (codes "prop") → In {A = Bool × Spot} (set, s) (asked root)
asked_there set root i p s first second third instructs is =
    let a : Bool × Spot = (set, s) in
    in_gathered asked_of (below root) i a first
    (subst (λ (o : Option Bool). In a (choose o (λ set. map (λ (s : Spot). (set, s))
    (flat_map props_in (below i))) [])) (sym (is_set i set instructs))
    (in_mapped (λ (s : Spot). (set, s)) (flat_map props_in (below i)) s
    (in_gathered props_in (below i) p s second (subst (λ (b : Bool). In s (cond b (below p) []))
    (sym (is_prop p is)) third))))

none_left_out : (nodes : List Node) (root : Spot) (set : Bool) (place : ElementPlace)
    → IsRoot nodes root → IsPropertyOf nodes set place
    → Contains (map place_of (asked root)) place
none_left_out nodes root set place h property =
    let names : map (λ (tag : StartTag). tag.name) (tags_around place)
    ≡ names_around_property set = property.within in
    let n = nested nodes root h place property.stands
    (same_length (tags_around place) (names_around_property set) names) in
    let instructions = below_read nodes [] root h.is in
    let i = all_in (IsReadSpot nodes (tag_at root ∷ []))
    (below root) n.instruction instructions n.first in
    let p = all_in (IsReadSpot nodes (tag_at n.instruction ∷ tag_at root ∷ []))
    (below n.instruction) n.prop (below_read nodes
    (tag_at root ∷ []) n.instruction i) n.second in
    let s = all_in (IsReadSpot nodes (tag_at n.prop ∷ tag_at n.instruction ∷ tag_at root ∷ []))
    (below n.prop) n.property
    (below_read nodes (tag_at n.instruction ∷ tag_at root ∷ []) n.prop p) n.third in
    let same : n.prop.name ∷ n.instruction.name ∷ root.name ∷ [] ≡ names_around_property set =
    ap (map (λ (tag : StartTag). tag.name)) (sym s.spot.around ∙ ap tags_around n.is) ∙ names in
    let first : n.prop.name ≡ dav_name (codes "prop") = cc in
    let second : n.instruction.name ≡ dav_name (if set then codes "set" else codes "remove") = cc in
    subst (Contains (map place_of (asked root))) n.is
    (Contains-In (map place_of (asked root)) (place_at n.property)
    (in_mapped place_of (asked root) (set, n.property)
    (asked_there set root n.instruction n.prop n.property n.first n.second n.third second first)))

-- ---- the law

pub updates_are_sent : (body : List ℕ) (updates : List Update) → length body < 2 ^ 64
    → updates_in body ≡ Some updates → AreSentUpdates body updates
updates_are_sent body updates fits is =
    let document = bind_some (document_of body) updates_of updates is in
    let nodes = document.0 in
    let read : WasRead nodes = record {
      could = read_could body nodes fits document.1;
      room = read_room body nodes fits document.1;
    } in
    let root = root_of nodes read in
    let there = updates_there nodes root.0 updates root.1 document.2 in
    record {
      nodes = nodes;
      spelled = document.1;
      places = map place_of (asked root.0);
      each = subst (AllZip (IsUpdateAt nodes) (map place_of (asked root.0))) (sym there.1)
          (each_at nodes root.0 (asked root.0) there.0 (all_there nodes root.0 root.1.is));
      order = in_order (length root.0.before) (length root.0.before + length (element_at root.0))
          (map place_of (asked root.0)) (asked_ordered root.0);
      all = λ set place property. none_left_out nodes root.0 set place root.1 property;
    }
