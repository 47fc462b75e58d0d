use Rattle.std.proofs.Common.{◌≡◌, refl, sym, ap, ◌∙◌, ◌∷◌, ◌++◌, [], true, false, map, List}
use Rattle.std.proofs.lemmas.List.{map_push}
use Rattle.dav_xml_core.specs.Documents.{Node, End}
use Rattle.dav_xml_core.specs.Reading.{same_qname, text_nodes}
use Rattle.dav_xml_core.specs.Views.{element_of, front_of, node_of, qname_of}
use Rattle.dav_xml_core.proofs.BuilderLemmas.{ended_with, ended_not, same_front}
use Rattle.dav_xml_core.proofs.davxml.builder.Builder.end.Goals as goal

pub returns-then-not-same_qname : goal.returns-then-not-same_qname
returns-then-not-same_qname c =
    let was = c.args.self.now in
    let popped : map element_of was.elements.items ≡ map element_of c.pop.new.self.items ++ element_of c.in-Some.element ∷ [] = rw c.in-Some.ensures.items (map_push element_of c.pop.new.self.items c.in-Some.element) in
    let other : same_qname (qname_of c.in-Some.element.name) (qname_of c.args.name) ≡ false = sym c.same_qname.ensures ∙ c.if-not-same_qname.true in
    ended_not (front_of was) (qname_of c.args.name) _ _ popped other

pub returns : goal.returns
returns c =
    let was = c.args.self.now in
    let popped : map element_of was.elements.items ≡ map element_of c.pop.new.self.items ++ element_of c.in-Some.element ∷ [] = rw c.in-Some.ensures.items (map_push element_of c.pop.new.self.items c.in-Some.element) in
    let same : same_qname (qname_of c.in-Some.element.name) (qname_of c.args.name) ≡ true = sym c.same_qname.ensures ∙ c.if-not-same_qname.false in
    let pushed : map node_of c.push.new.self.items ≡ map node_of c.end_text.new.nodes.items ++ End ∷ [] = rw c.in_ok-push.ensures.items (map_push node_of c.end_text.new.nodes.items _) in
    let nodes : map node_of c.push.new.self.items ≡ map node_of was.nodes.items ++ text_nodes was.text.items ++ End ∷ [] = pushed ∙ ap (λ (all : List Node). all ++ End ∷ []) c.in_ok-end_text.ensures.nodes in
    ended_with (front_of was) (qname_of c.args.name) _ _ popped same ∙ sym (same_front nodes c.in_ok-end_text.ensures.text refl c.end_to.ensures)
