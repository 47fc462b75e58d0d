-- The end of an element.
use Rattle.std.proofs.Common.{◌≡◌, refl, ap, ◌∙◌, ℕ, true, false, List, [], ◌∷◌, ◌++◌, take, Option, None, Some}
use Rattle.dav_xml_core.specs.Documents.{Node, End}
use Rattle.dav_xml_core.specs.Names.{QName}
use Rattle.dav_xml_core.specs.Namespaces.{Binding}
use Rattle.dav_xml_core.specs.Optional.{◌>>=◌, when, choose}
use Rattle.dav_xml_core.specs.Reading.{Front, Element, last_of, same_qname, text_nodes, with_end_tag}

pub last_pushed : {A : Type 0} (xs : List A) (x : A) → last_of (xs ++ x ∷ []) ≡ Some (xs, x)
last_pushed [] x = refl
last_pushed {A} (y ∷ xs) x = ap (λ (o : Option (List A × A)). choose o (λ found. some (y ∷ found.0, found.1)) (some ([], y))) (last_pushed xs x)
  where
    some : List A × A → Option (List A × A)
    some found = Some found

abbrev pub after_end : Front → List Element → ℕ → Front
after_end front before around = record {
  nodes = front.nodes ++ text_nodes front.text ++ End ∷ [];
  text = [];
  elements = before;
  bindings = take around front.bindings;
}

abbrev ends_as : Front → QName → Option (List Element × Element) → Option Front
ends_as front name last = last >>= λ found. when (same_qname found.1.name name) (after_end front found.0 found.1.around)

last_is : (front : Front) (name : QName) (before : List Element) (element : Element) → front.elements ≡ before ++ element ∷ []
    → with_end_tag front name ≡ when (same_qname element.name name) (after_end front before element.around)
unfolding with_end_tag
last_is front name before element e = ap (λ (all : List Element). ends_as front name (last_of all)) e ∙ ap (ends_as front name) (last_pushed before element)

pub ended_with : (front : Front) (name : QName) (before : List Element) (element : Element) → front.elements ≡ before ++ element ∷ []
    → same_qname element.name name ≡ true → with_end_tag front name ≡ Some (after_end front before element.around)
ended_with front name before element e same = last_is front name before element e ∙ ap (λ b. when b (after_end front before element.around)) same

pub ended_not : (front : Front) (name : QName) (before : List Element) (element : Element) → front.elements ≡ before ++ element ∷ []
    → same_qname element.name name ≡ false → with_end_tag front name ≡ None
ended_not front name before element e same = last_is front name before element e ∙ ap (λ b. when b (after_end front before element.around)) same

abbrev pub some_front : List Node → List ℕ → List Element → List Binding → Option Front
some_front nodes text elements bindings = Some (record { nodes = nodes; text = text; elements = elements; bindings = bindings })

pub same_front : {nodes other_nodes : List Node} {text other_text : List ℕ} {elements other_elements : List Element} {bindings other_bindings : List Binding}
    → nodes ≡ other_nodes → text ≡ other_text → elements ≡ other_elements → bindings ≡ other_bindings
    → some_front nodes text elements bindings ≡ some_front other_nodes other_text other_elements other_bindings
same_front {nodes} {other_nodes} {text} {other_text} {elements} {other_elements} {bindings} {other_bindings} a b c d =
    ap (λ (x : List Node). some_front x text elements bindings) a
    ∙ ap (λ (x : List ℕ). some_front other_nodes x elements bindings) b
    ∙ ap (λ (x : List Element). some_front other_nodes other_text x bindings) c
    ∙ ap (λ (x : List Binding). some_front other_nodes other_text other_elements x) d
