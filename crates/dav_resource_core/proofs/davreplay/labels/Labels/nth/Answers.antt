use Rattle.std.proofs.Common.{◌≡◌, ℕ, zero, suc, ◌<◌, ◌-◌, arith, List, [], ◌∷◌, length, map, Some, option_map, string_bytes, sym, ap, ◌∙◌}
use Rattle.std.specs.List.{slice_get, slice_index_or}
use Rattle.std.proofs.lemmas.Option.{slice_get-map}
use Rattle.std.proofs.lemmas.Bool.Decides.{nat_tests}
use Rattle.dav_resource_core.specs.RequestLines.{nth_token}
use Rattle.dav_resource_core.proofs.davreplay.labels.Labels.nth.Goals as goal

got : {X : Type 0} (xs : List X) (i : ℕ) (x : X) → i < length xs → x ≡ slice_index_or xs i x → slice_get xs i ≡ Some x
got [] i x lt e = absurd (omega arith)
got (y ∷ ys) zero x lt e = ap Some (sym e)
got (y ∷ ys) (suc i) x lt e = got ys i x (omega arith) e

pub returns : goal.returns
unfolding nth_token
returns c =
    let items = c.self.inside.tokens.items in
    let i = c.args.number - 1 in
    let lookup = rw c.deref.ensures.value at c.in_ok-get.ensures.lookup in
    let there = got items i c.in_ok-get.field-0.now lookup.3.0 lookup.1 in
    let found : slice_get (map string_bytes items) i ≡ Some c.as_str.result.now = slice_get-map string_bytes items i ∙ ap (option_map string_bytes) there ∙ ap Some (sym c.as_str.ensures.value) in
    grind (arith, nat_tests, found)
