-- The elements inside one that could have been read could have been read, too.
use Rattle.std.proofs.Common.{◌≡◌, refl, sym, ap, ◌∙◌, ℕ, zero, suc, Bool, true, false, ◌&&◌, List, [], ◌∷◌, ◌++◌, map, append_assoc}
use Rattle.std.specs.List.{AllByRecursion, list_all}
use Rattle.std.proofs.lemmas.Bool.{false≢true}
use Rattle.std.proofs.lemmas.List.{append-nil, map_push}
use Rattle.std.proofs.lemmas.List.Folds.{list_all-append}
use Rattle.dav_xml_core.specs.Documents.{Node, Start, Text, End, Name, Attribute, closes, is_element}
use Rattle.dav_xml_core.specs.ReadableDocuments.{CouldBeRead, are_apart, has_room, is_node, is_readable, node_bytes}
use Rattle.dav_documents_core.specs.Elements.{children, elements_from}
use Rattle.dav_documents_core.specs.KeptReading.{WasRead}

-- ---- the same in bytes

abbrev bytes_of : List Node → List Node
bytes_of nodes = map node_bytes nodes

abbrev Same : ℕ → List Node → List Node → Type 0
Same depth so_far nodes = elements_from depth (bytes_of so_far) (bytes_of nodes) ≡ map bytes_of (elements_from depth so_far nodes)

pushed : (n : ℕ) (so_far : List Node) (node : Node) (nodes : List Node) → Same (suc n) (so_far ++ node ∷ []) nodes
    → elements_from (suc n) (bytes_of so_far ++ node_bytes node ∷ []) (bytes_of nodes) ≡ map bytes_of (elements_from (suc n) (so_far ++ node ∷ []) nodes)
pushed n so_far node nodes h = ap (λ (front : List Node). elements_from (suc n) front (bytes_of nodes)) (sym (map_push node_bytes so_far node)) ∙ h

same : (nodes : List Node) (depth : ℕ) (so_far : List Node) → Same depth so_far nodes
same [] zero so_far = refl
same [] (suc n) so_far = refl
same (Start name attributes ∷ nodes) zero so_far = same nodes 1 (Start name attributes ∷ [])
same (Text text ∷ nodes) zero so_far = same nodes zero []
same (End ∷ nodes) zero so_far = same nodes zero []
same (Start name attributes ∷ nodes) (suc n) so_far = pushed (suc n) so_far (Start name attributes) nodes (same nodes (suc (suc n)) (so_far ++ Start name attributes ∷ []))
same (Text text ∷ nodes) (suc n) so_far = pushed n so_far (Text text) nodes (same nodes (suc n) (so_far ++ Text text ∷ []))
same (End ∷ nodes) (suc zero) so_far =
    ap (λ (last : List Node). last ∷ elements_from zero [] (bytes_of nodes)) (sym (map_push node_bytes so_far End))
    ∙ ap (λ (es : List (List Node)). bytes_of (so_far ++ End ∷ []) ∷ es) (same nodes zero [])
same (End ∷ nodes) (suc (suc n)) so_far = pushed n so_far End nodes (same nodes (suc n) (so_far ++ End ∷ []))

same_children : (nodes : List Node) → children (bytes_of nodes) ≡ map bytes_of (children nodes)
same_children [] = refl
same_children (Start name attributes ∷ nodes) = same nodes 0 []
same_children (Text text ∷ nodes) = refl
same_children (End ∷ nodes) = refl

-- ---- each is readable

abbrev IsReadable : List Node → Type 0
IsReadable nodes = is_readable nodes ≡ true

-- the nodes so far of an element, in which so many have begun; the flag says whether a text stands last
record Opened (depth : ℕ) (so_far : List Node) (after_text : Bool) : Type 0 where
  closing : (rest : List Node) → is_element (so_far ++ rest) ≡ closes depth rest
  each : list_all is_node so_far ≡ true
  apart : (rest : List Node) → are_apart false (so_far ++ rest) ≡ are_apart after_text rest

abbrev IsState : ℕ → List Node → Bool → Type 0
IsState zero so_far after_text = Unit {0}
IsState (suc n) so_far after_text = Opened (suc n) so_far after_text

both : (a b : Bool) → (a && b) ≡ true → (a ≡ true) × (b ≡ true)
both true b h = (refl, h)
both false b h = absurd (false≢true h)

opened : (name : Name) (attributes : List Attribute) → is_node (Start name attributes) ≡ true → Opened 1 (Start name attributes ∷ []) false
opened name attributes h = record { closing = λ rest. refl; each = ap (λ b. b && true) h; apart = λ rest. refl }

grown : (n m : ℕ) (so_far : List Node) (node : Node) (before after : Bool) → Opened (suc n) so_far before → is_node node ≡ true
    → ((rest : List Node) → closes (suc n) (node ∷ rest) ≡ closes m rest) → ((rest : List Node) → are_apart before (node ∷ rest) ≡ are_apart after rest)
    → Opened m (so_far ++ node ∷ []) after
grown n m so_far node before after h is closing apart = record {
  closing = λ rest. ap is_element (append_assoc so_far (node ∷ []) rest) ∙ h.closing (node ∷ rest) ∙ closing rest;
  each = list_all-append is_node so_far (node ∷ []) ∙ ap (λ b. b && (is_node node && true)) h.each ∙ ap (λ b. b && true) is;
  apart = λ rest. ap (are_apart false) (append_assoc so_far (node ∷ []) rest) ∙ h.apart (node ∷ rest) ∙ apart rest;
}

whole : (so_far : List Node) (after_text : Bool) → Opened 0 so_far after_text → IsReadable so_far
whole so_far after_text h =
    let element : is_element so_far ≡ true = ap is_element (sym (append-nil so_far)) ∙ h.closing [] in
    let apart : are_apart false so_far ≡ true = ap (are_apart false) (sym (append-nil so_far)) ∙ h.apart [] in
    rw (element, h.each, apart) refl

no_text_before : (after_text : Bool) (text : List ℕ) (nodes : List Node) → are_apart after_text (Text text ∷ nodes) ≡ true → (after_text ≡ false) × (are_apart true nodes ≡ true)
no_text_before true text nodes h = absurd (false≢true h)
no_text_before false text nodes h = (refl, h)

each_readable : (nodes : List Node) (depth : ℕ) (so_far : List Node) (after_text : Bool) → IsState depth so_far after_text → list_all is_node nodes ≡ true
    → are_apart after_text nodes ≡ true → AllByRecursion IsReadable (elements_from depth so_far nodes)
each_readable [] zero so_far after_text state each apart = tt
each_readable [] (suc n) so_far after_text state each apart = tt
each_readable (Start name attributes ∷ nodes) zero so_far after_text state each apart =
    let e = both _ _ each in each_readable nodes 1 (Start name attributes ∷ []) false (opened name attributes e.0) e.1 apart
each_readable (Text text ∷ nodes) zero so_far after_text state each apart =
    each_readable nodes zero [] true tt (both _ _ each).1 (no_text_before after_text text nodes apart).1
each_readable (End ∷ nodes) zero so_far after_text state each apart = each_readable nodes zero [] false tt each apart
each_readable (Start name attributes ∷ nodes) (suc n) so_far after_text state each apart =
    let e = both _ _ each in
    each_readable nodes (suc (suc n)) (so_far ++ Start name attributes ∷ []) false
    (grown n (suc (suc n)) so_far (Start name attributes) after_text false state e.0 (λ rest. refl) (λ rest. refl)) e.1 apart
each_readable (Text text ∷ nodes) (suc n) so_far after_text state each apart =
    let e = both _ _ each in
    let t = no_text_before after_text text nodes apart in
    each_readable nodes (suc n) (so_far ++ Text text ∷ []) true
    (grown n (suc n) so_far (Text text) after_text true state e.0 (λ rest. refl) (λ rest. ap (λ b. are_apart b (Text text ∷ rest)) t.0)) e.1 t.1
each_readable (End ∷ nodes) (suc zero) so_far after_text state each apart =
    (whole (so_far ++ End ∷ []) false (grown 0 0 so_far End after_text false state refl (λ rest. refl) (λ rest. refl)), each_readable nodes zero [] false tt each apart)
each_readable (End ∷ nodes) (suc (suc n)) so_far after_text state each apart =
    each_readable nodes (suc n) (so_far ++ End ∷ []) false (grown (suc n) (suc n) so_far End after_text false state refl (λ rest. refl) (λ rest. refl)) each apart

children_readable : (nodes : List Node) → IsReadable nodes → AllByRecursion IsReadable (children nodes)
children_readable [] h = tt
children_readable (Start name attributes ∷ nodes) h =
    let parts = both _ _ h in
    let each = (both _ _ parts.0).1 in
    each_readable nodes 0 [] false tt (both _ _ each).1 parts.1
children_readable (Text text ∷ nodes) h = tt
children_readable (End ∷ nodes) h = tt

-- ---- each could have been read

could_each : (elements : List (List Node)) → AllByRecursion IsReadable elements → AllByRecursion CouldBeRead (map bytes_of elements)
could_each [] h = tt
could_each (characters ∷ elements) h = (record { characters = characters; bytes = refl; readable = h.0 }, could_each elements h.1)

pub children_could : (nodes : List Node) → CouldBeRead nodes → AllByRecursion CouldBeRead (children nodes)
children_could nodes h =
    let found : children nodes ≡ map bytes_of (children h.characters) = ap children h.bytes ∙ same_children h.characters in
    rw found (could_each (children h.characters) (children_readable h.characters h.readable))

-- ---- what holds of each node

grown_all : (p : Node → Bool) (so_far : List Node) (node : Node) → list_all p so_far ≡ true → p node ≡ true → list_all p (so_far ++ node ∷ []) ≡ true
grown_all p so_far node h is = list_all-append p so_far (node ∷ []) ∙ rw (h, is) refl

each_all : (p : Node → Bool) (nodes : List Node) (depth : ℕ) (so_far : List Node) → list_all p so_far ≡ true → list_all p nodes ≡ true
    → AllByRecursion (λ element. list_all p element ≡ true) (elements_from depth so_far nodes)
each_all p [] zero so_far h all = tt
each_all p [] (suc n) so_far h all = tt
each_all p (Start name attributes ∷ nodes) zero so_far h all =
    let e = both _ _ all in each_all p nodes 1 (Start name attributes ∷ []) (ap (λ b. b && true) e.0) e.1
each_all p (Text text ∷ nodes) zero so_far h all = each_all p nodes zero [] refl (both _ _ all).1
each_all p (End ∷ nodes) zero so_far h all = each_all p nodes zero [] refl (both _ _ all).1
each_all p (Start name attributes ∷ nodes) (suc n) so_far h all =
    let e = both _ _ all in each_all p nodes (suc (suc n)) (so_far ++ Start name attributes ∷ []) (grown_all p so_far (Start name attributes) h e.0) e.1
each_all p (Text text ∷ nodes) (suc n) so_far h all =
    let e = both _ _ all in each_all p nodes (suc n) (so_far ++ Text text ∷ []) (grown_all p so_far (Text text) h e.0) e.1
each_all p (End ∷ nodes) (suc zero) so_far h all =
    let e = both _ _ all in (grown_all p so_far End h e.0, each_all p nodes zero [] refl e.1)
each_all p (End ∷ nodes) (suc (suc n)) so_far h all =
    let e = both _ _ all in each_all p nodes (suc n) (so_far ++ End ∷ []) (grown_all p so_far End h e.0) e.1

children_all : (p : Node → Bool) (nodes : List Node) → list_all p nodes ≡ true → AllByRecursion (λ element. list_all p element ≡ true) (children nodes)
children_all p [] h = tt
children_all p (Start name attributes ∷ nodes) h = each_all p nodes 0 [] refl (both _ _ h).1
children_all p (Text text ∷ nodes) h = tt
children_all p (End ∷ nodes) h = tt

-- ---- each was read

each_read : (elements : List (List Node)) → AllByRecursion CouldBeRead elements → AllByRecursion (λ element. list_all has_room element ≡ true) elements
    → AllByRecursion WasRead elements
each_read [] h k = tt
each_read (element ∷ elements) h k = (record { could = h.0; room = k.0 }, each_read elements h.1 k.1)

pub children_read : (nodes : List Node) → WasRead nodes → AllByRecursion WasRead (children nodes)
children_read nodes h = each_read (children nodes) (children_could nodes h.could) (children_all has_room nodes h.room)
