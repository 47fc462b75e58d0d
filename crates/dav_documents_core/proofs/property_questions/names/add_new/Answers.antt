use Rattle.std.proofs.Common.{sym, ap, ◌∙◌, true, cond, [], ◌∷◌, ◌++◌, map}
use Rattle.std.specs.List.{list_any}
use Rattle.std.specs.Ordering.{is_eq}
use Rattle.std.proofs.lemmas.List.{map_push}
use Rattle.dav_xml_core.specs.Views.{name_of}
use Rattle.dav_documents_core.specs.Private.LentKeys.{lent_key_cmp, name_at}
use Rattle.dav_xml_core.specs.Namespaces.{same_name}
use Rattle.dav_documents_core.proofs.NamingLemmas.{new_name, old_name, one_name_more}
use Rattle.dav_documents_core.proofs.property_questions.names.add_new.Goals as goal

pub returns-else-is_new-clause-names : goal.returns-else-is_new-clause-names
returns-else-is_new-clause-names c =
    let names = map name_of c.args.found.now.names.items in
    let had = c.requires c.texts_of.result ∙ ap (λ name. list_any (same_name name) names) c.texts_of.ensures in
    old_name names (name_of c.args.name.now) _ had (sym c.if-is_new.false ∙ c.in_ok-is_new.ensures.added)

pub returns-in_ok-push-clause-names : goal.returns-in_ok-push-clause-names
returns-in_ok-push-clause-names c =
    let names = map name_of c.args.found.now.names.items in
    let had = c.requires c.texts_of.result ∙ ap (λ name. list_any (same_name name) names) c.texts_of.ensures in
    ap (map name_of) c.in_ok-push.ensures.items
    ∙ map_push name_of c.args.found.now.names.items c.in_ok-copy.copy
    ∙ ap (λ name. names ++ name ∷ []) c.in_ok-copy.ensures
    ∙ new_name names (name_of c.args.name.now) _ had (sym c.if-is_new.true ∙ c.in_ok-is_new.ensures.added)

pub returns-in_ok-push-clause-seen : goal.returns-in_ok-push-clause-seen
returns-in_ok-push-clause-seen c = λ other.
    let names = map name_of c.args.found.now.names.items in
    let among = list_any (same_name (name_at other)) in
    let key = c.texts_of.result in
    c.in_ok-is_new.ensures.updates.0 other
    ∙ ap (λ b. cond (is_eq (lent_key_cmp key other)) true b) (c.requires other)
    ∙ one_name_more other key names
    ∙ ap (λ name. among (names ++ name ∷ [])) (c.texts_of.ensures ∙ sym c.in_ok-copy.ensures)
    ∙ ap among (sym (map_push name_of c.args.found.now.names.items c.in_ok-copy.copy))
    ∙ ap (λ all. among (map name_of all)) (sym c.in_ok-push.ensures.items)
