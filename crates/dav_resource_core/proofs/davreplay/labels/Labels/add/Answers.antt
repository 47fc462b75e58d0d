use Rattle.std.proofs.Common.{◌≡◌, Option, Some, map, string_bytes, subst, sym, ap, ◌∙◌, rules, unwrap_or}
use Rattle.std.specs.HashMap.{get_by_text}
use Rattle.std.proofs.lemmas.List.{map_push}
use Rattle.dav_resource_core.specs.Private.LabelMaps.{AreSmallest}
use Rattle.dav_resource_core.proofs.LabelLemmas.{granted_again}
use Rattle.dav_resource_core.proofs.davreplay.labels.Labels.add.Goals as goal

pub invariant_of-self-in-Some : goal.invariant_of-self-in-Some
invariant_of-self-in-Some c =
    let tokens = c.self.inside.tokens.items in
    let kept = get_by_text c.self.inside.numbers in
    let found : kept (string_bytes c.args.token) ≡ Some c.in-Some.number = search rules in
    let grown = ap (map string_bytes) c.in_ok-push-in-Some.ensures.items ∙ map_push string_bytes tokens c.args.token in
    subst (λ ts. AreSmallest ts kept) (sym grown) (granted_again (map string_bytes tokens) (string_bytes c.args.token) c.in-Some.number kept c.self.invariant found)

pub returns-in_ok-push-in-Some-clause-number : goal.returns-in_ok-push-in-Some-clause-number
returns-in_ok-push-in-Some-clause-number c =
    let found : get_by_text c.self.inside.numbers (string_bytes c.args.token) ≡ Some c.in-Some.number = search rules in
    let same = invariant_of-self-in-Some c (string_bytes c.args.token) in
    ap (λ o. unwrap_or o 0) (sym found ∙ same)
