use Rattle.std.proofs.Common.{◌≡◌, ℕ, ◌+◌, List, [], ◌∷◌, ◌++◌, Some, None, true, cond, length, map, vec_len, string_bytes, bytes_eq, subst, sym, ap, ◌∙◌, rules}
use Rattle.std.specs.HashMap.{get_by_text}
use Rattle.std.proofs.lemmas.List.{length-map, length_push, map_push}
use Rattle.std.proofs.lemmas.Map.Text.{hash_map_updates_text}
use Rattle.std.proofs.lemmas.Slice.Eq.{bytes_eq-Decides}
use Rattle.dav_resource_core.specs.Labels.{smallest_label}
use Rattle.dav_resource_core.specs.Private.LabelMaps.{AreSmallest}
use Rattle.dav_resource_core.proofs.LabelLemmas.{granted_first}
use Rattle.dav_resource_core.proofs.davreplay.labels.Labels.add_first.Goals as goal

pub invariant_of-self-in-Ok : goal.invariant_of-self-in-Ok
invariant_of-self-in-Ok c =
    let tokens = c.self.inside.tokens.items in
    let token = string_bytes c.args.token in
    let kept' = get_by_text c.insert.new.self in
    let grown = ap (map string_bytes) c.in_ok-push.ensures.items ∙ map_push string_bytes tokens c.in_ok-clone.field-0
    ∙ ap (λ t. map string_bytes tokens ++ t ∷ []) c.in_ok-clone.ensures.cases in
    let counted : vec_len c.push.new.self ≡ length c.push.new.self.items = search rules in
    let next : c.len-number.result ≡ length (map string_bytes tokens) + 1 =
    c.len-number.ensures ∙ counted ∙ ap length c.in_ok-push.ensures.items ∙ length_push tokens c.in_ok-clone.field-0 ∙ ap (λ n. n + 1) (sym (length-map tokens string_bytes)) in
    let missing = subst (λ ts. smallest_label ts token ≡ None) (sym c.self.view_is) c.requires in
    let updated = hash_map_updates_text token c.self.inside.numbers c.insert.new.self _ c.in-Ok.ensures.updates in
    subst (λ ts. AreSmallest ts kept') (sym grown)
    (granted_first (map string_bytes tokens) token c.len-number.result (get_by_text c.self.inside.numbers) kept' c.self.invariant missing next updated)

pub returns-in-Ok-clause-number : goal.returns-in-Ok-clause-number
returns-in-Ok-clause-number c =
    let token = string_bytes c.args.token in
    let updated = hash_map_updates_text token c.self.inside.numbers c.insert.new.self _ c.in-Ok.ensures.updates token in
    let same : bytes_eq token token ≡ true = search (rules, bytes_eq-Decides) in
    sym (invariant_of-self-in-Ok c token) ∙ updated ∙ ap (λ b. cond b (Some c.len-number.result) (get_by_text c.self.inside.numbers token)) same
