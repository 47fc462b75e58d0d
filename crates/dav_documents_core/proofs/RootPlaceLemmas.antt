-- The root of a document that was read, and what stands inside it.
use Rattle.std.proofs.Common.{◌≡◌, refl, sym, ap, subst, ◌∙◌, ℕ, zero, suc, arith, true, false, ◌&&◌, ◌⊎◌, inl, inr, List, [], ◌∷◌, ◌++◌, length, map, append-nil}
use Rattle.std.specs.Prelude.{bytes_eq}
use Rattle.std.specs.List.{list_all}
use Rattle.std.proofs.lemmas.Bool.{and_parts}
use Rattle.std.proofs.lemmas.List.{length-map}
use Rattle.std.proofs.lemmas.Slice.Eq.{bytes_eq-Decides}
use Rattle.dav_path_core.proofs.lists.MemberLemmas.{In, all_in}
use Rattle.dav_xml_core.specs.Documents.{Name, Attribute, Node, Start, Text, End, closes, is_element}
use Rattle.dav_xml_core.specs.ReadableDocuments.{CouldBeRead, are_apart, is_node, node_bytes}
use Rattle.dav_xml_core.specs.Writing.{dav_namespace}
use Rattle.dav_documents_core.specs.Elements.{is_dav_name}
use Rattle.dav_documents_core.specs.ElementPlaces.{ElementPlace, HasElementAt, StartTag, open_behind, tags_around}
use Rattle.dav_documents_core.specs.KeptReading.{WasRead}
use Rattle.dav_documents_core.specs.RefusalBodies.{dav_name}
use Rattle.dav_documents_core.proofs.ElementPlaceLemmas.{IsInside, Spot, below, deeper, element_at, found_below, place_at, same_place, tag_at}
use Rattle.dav_documents_core.proofs.ForestLemmas.{flat, two_parts, whole_parts}
use Rattle.dav_documents_core.proofs.ReadPlaceLemmas.{IsReadSpot, below_read}

-- ---- the root of a document

closed_bytes : (nodes : List Node) (n : ℕ) → closes n (map node_bytes nodes) ≡ closes n nodes
closed_bytes [] zero = refl
closed_bytes [] (suc n) = refl
closed_bytes (node ∷ nodes) zero = refl
closed_bytes (Start name attributes ∷ nodes) (suc n) = closed_bytes nodes (suc (suc n))
closed_bytes (Text text ∷ nodes) (suc n) = closed_bytes nodes (suc n)
closed_bytes (End ∷ nodes) (suc n) = closed_bytes nodes n

element_bytes : (nodes : List Node) → is_element nodes ≡ true
    → is_element (map node_bytes nodes) ≡ true
element_bytes [] h = h
element_bytes (Start name attributes ∷ nodes) h = closed_bytes nodes 1 ∙ h
element_bytes (Text text ∷ nodes) h = h
element_bytes (End ∷ nodes) h = h

could_whole : (nodes : List Node) → CouldBeRead nodes → is_element nodes ≡ true
could_whole nodes h =
    let parts = and_parts (is_element h.characters && list_all is_node h.characters)
    (are_apart false h.characters) h.readable in
    ap is_element h.bytes ∙ element_bytes h.characters
    (and_parts (is_element h.characters) (list_all is_node h.characters) parts.0).0

pub record IsRoot (nodes : List Node) (root : Spot) : Type 0 where
  pub first : root.before ≡ []
  pub all : nodes ≡ element_at root
  pub is : IsReadSpot nodes [] root

pub root_of : (nodes : List Node) → WasRead nodes → (root : Spot) × IsRoot nodes root
root_of nodes h =
    let w = whole_parts nodes (could_whole nodes h.could) in
    let root : Spot = record { before = []; name = w.0; attributes = w.1; inside = w.2 } in (
      root,
      record {
        first = refl;
        all = w.3;
        is = record {
          spot = record {
            behind = [];
            split = w.3
                ∙ sym (append-nil (element_at root));
            around = refl;
          };
          read = subst (λ (ns : List Node). WasRead ns) w.3 h;
          lang = tt;
        };
      },
    )

-- ---- names

pub dav_is : (local : List ℕ) (name : Name) → is_dav_name local name ≡ true → name ≡ dav_name local
dav_is local name h =
    let parts = and_parts (bytes_eq name.namespace dav_namespace) (bytes_eq name.local local) h in
    ap (λ (ns : List ℕ). record { namespace = ns; local = name.local })
    ((bytes_eq-Decides name.namespace dav_namespace).0 parts.0)
    ∙ ap (λ (l : List ℕ). record { namespace = dav_namespace; local = l })
    ((bytes_eq-Decides name.local local).0 parts.1)

-- ---- where an element starts

-- where an element stands, as the start of it
pub record IsStart (nodes : List Node) (place : ElementPlace) : Type 0 where
  pub name : Name
  pub attributes : List Attribute
  pub behind : List Node
  pub split : nodes ≡ place.before ++ (Start name attributes ∷ behind)

pub start_of : (nodes : List Node) (place : ElementPlace) → HasElementAt nodes place
    → IsStart nodes place
start_of nodes place h =
    let w = whole_parts place.element h.whole in
    record {
      name = w.0;
      attributes = w.1;
      behind = (flat w.2 ++ (End ∷ [])) ++ h.behind;
      split = h.split ∙ ap (λ (ns : List Node). place.before ++ (ns ++ h.behind)) w.3;
    }

pub inside_root : (root : Spot) (name : Name) (attributes : List Attribute) (at behind : List Node)
    → root.before ≡ []
    → element_at root ≡ at ++ (Start name attributes ∷ behind)
    → (at ≡ []) ⊎ IsInside at name attributes root
inside_root root name attributes [] behind first split = inl refl
inside_root root name attributes (x ∷ at) behind first split =
    let same : Start root.name root.attributes ≡ x = cc in
    let others : flat root.inside ++ (End ∷ []) ≡ at ++ (Start name attributes ∷ behind) = cc in
    elim (two_parts (flat root.inside) (End ∷ []) at (Start name attributes) behind others) [
      | inl past ↦ absurd (no_start past.0 past.2)
      | inr within ↦ inr (record {
        front = at;
        behind = within.0;
        place = ap (λ (y : Node). y ∷ at) (sym same)
            ∙ ap (λ (ns : List Node). (ns ++ (Start root.name root.attributes ∷ [])) ++ at)
            (sym first);
        there = within.1;
      })
    ]
  where
    no_start : (more : List Node) → End ∷ [] ≡ more ++ (Start name attributes ∷ behind) → ⊥
    no_start [] e = cc
    no_start (y ∷ []) e = cc
    no_start (y ∷ z ∷ more) e = cc

pub same_length : (tags : List StartTag) (names : List Name)
    → map (λ (tag : StartTag). tag.name) tags ≡ names → length tags ≡ length names
same_length tags names h = sym (length-map tags (λ (tag : StartTag). tag.name)) ∙ ap length h

-- ---- right inside the root

pub right_inside : (nodes : List Node) (root : Spot) (place : ElementPlace) → IsRoot nodes root
    → HasElementAt nodes place → length (tags_around place) ≡ 1
    → (s : Spot) × In s (below root) × (place_at s ≡ place)
right_inside nodes root place h stands one =
    let start = start_of nodes place stands in
    let each = below_read nodes [] root h.is in
    elim (inside_root root start.name start.attributes place.before start.behind h.first
    (sym h.all ∙ start.split)) [
      | inl none ↦ (let no_tags : length (tags_around place) ≡ 0 = ap
          (λ (ns : List Node). length (open_behind [] ns)) none in absurd
          (omega (arith, no_tags, one)))
      | inr inside ↦ elim (found_below place.before start.name start.attributes root inside) [
        | inl a ↦ (
          a.0,
          a.1,
          same_place nodes (tag_at root ∷ []) a.0 place
              (all_in (IsReadSpot nodes (tag_at root ∷ []))
              (below root) a.0 each a.1).spot stands a.2,
        )
        | inr b ↦ (
            let long = deeper nodes (tag_at root ∷ []) b.0 place.before start.name start.attributes
            (all_in (IsReadSpot nodes (tag_at root ∷ [])) (below root) b.0 each b.1).spot b.2 in
            absurd (omega (arith, long, one)))
      ]
    ]
