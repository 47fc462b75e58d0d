use Rattle.std.proofs.Common.{option_map, rules, sym, ap, ◌∙◌}
use Rattle.std.proofs.lemmas.Fn.{always_returns_same}
use Rattle.dav_xml_core.specs.Views.{name_of}
use Rattle.dav_documents_core.specs.Private.Rising.{order}
use Rattle.dav_documents_core.proofs.SearchedLemmas.{found, missing}
use Rattle.dav_documents_core.proofs.property_documents.names.searched.Goals as goal

pub returns-in-Ok : goal.returns-in-Ok
returns-in-Ok c =
    let name = name_of c.args.name.now in
    let held = c.in-Ok.ensures.position (λ p. order p (name.namespace, name.local)) (always_returns_same _ _ _ (λ a r f' called. search rules)) in
    let d = c.index-props-place.result in
    ap (option_map (λ xml. xml.items)) c.as_ref.ensures.value ∙ sym (found c.args.props.now name c.in-Ok.place d c.requires c.in-Ok.ensures.bound (held d))

pub returns-in-Err : goal.returns-in-Err
returns-in-Err c =
    let name = name_of c.args.name.now in
    let parted = c.in-Err.ensures.position (λ p. order p (name.namespace, name.local)) (always_returns_same _ _ _ (λ a r f' called. search rules)) in
    sym (missing c.args.props.now name c.in-Err.field-0 c.requires parted)
