use Rattle.std.proofs.Common.{◌≡◌, Some, ap, sym, ◌∙◌, subst, None, false}
use Rattle.dav_path_core.specs.Keyed.{child, is_under, IsKnown}
use Rattle.dav_path_core.specs.TreeValue.{IsTreeValue}
use Rattle.dav_path_core.proofs.trees.Trees.{none≢some}
use Rattle.dav_path_core.proofs.trees.Refusals.{Allowed, allowed, allowed-outside, forbidden-below}
use Rattle.dav_path_core.proofs.trees.Replacing.{replaced-leaf, replaced-known, replaced-known_parent, replaced-outside, replaced-free}
use Rattle.dav_path_core.proofs.tree.Tree.move_node.Goals as goal

pub put_below-requires : goal.put_below-requires
put_below-requires g c =
    let a : Allowed c.args.self.now.keyed g.K.PartialEq.eq c.args.id c.args.new_parent c.args.new_name c.args.overwrite =
    allowed c.args.self.now.keyed g.K.PartialEq.eq c.args.id c.args.new_parent c.args.new_name c.args.overwrite c.in-Ok-None.ensures.answer.0 in
    record { known = a.known; known_parent = a.known_parent; not_root = a.not_root; outside = a.outside; free = sym c.in-Ok-None.ensures.answer.1 ∙ c.in-Ok-None.field-0-is }

pub put_below-requires-in-Ok-clause-known : goal.put_below-requires-in-Ok-clause-known
put_below-requires-in-Ok-clause-known g c =
    let shape : IsTreeValue g.K.PartialEq.eq c.args.self.now = c.check_move.ensures.shape in
    subst (λ t. IsKnown t c.args.id) (sym c.in-Ok.ensures.answer.2) (replaced-known g.K.PartialEq.eq g.met.K.Eq.laws c.args.self.now.keyed c.args.id c.args.new_parent c.args.new_name c.args.overwrite shape.tree
    c.in-Ok-Some.ensures.answer.0 c.in-Ok-Some.other (sym c.in-Ok-Some.ensures.answer.1 ∙ c.in-Ok-Some.field-0-is) c.if-other-id.false)

pub put_below-requires-in-Ok-clause-known_parent : goal.put_below-requires-in-Ok-clause-known_parent
put_below-requires-in-Ok-clause-known_parent g c =
    let shape : IsTreeValue g.K.PartialEq.eq c.args.self.now = c.check_move.ensures.shape in
    subst (λ t. IsKnown t c.args.new_parent) (sym c.in-Ok.ensures.answer.2) (replaced-known_parent g.K.PartialEq.eq g.met.K.Eq.laws c.args.self.now.keyed c.args.id c.args.new_parent c.args.new_name c.args.overwrite shape.tree
    c.in-Ok-Some.ensures.answer.0 c.in-Ok-Some.other (sym c.in-Ok-Some.ensures.answer.1 ∙ c.in-Ok-Some.field-0-is) c.if-other-id.false)

pub put_below-requires-in-Ok-clause-outside : goal.put_below-requires-in-Ok-clause-outside
put_below-requires-in-Ok-clause-outside g c =
    let shape : IsTreeValue g.K.PartialEq.eq c.args.self.now = c.check_move.ensures.shape in
    subst (λ t. is_under t c.args.id c.args.new_parent ≡ false) (sym c.in-Ok.ensures.answer.2) (replaced-outside g.K.PartialEq.eq g.met.K.Eq.laws c.args.self.now.keyed c.args.id c.args.new_parent c.args.new_name c.args.overwrite shape.tree
    c.in-Ok-Some.ensures.answer.0 c.in-Ok-Some.other (sym c.in-Ok-Some.ensures.answer.1 ∙ c.in-Ok-Some.field-0-is) c.if-other-id.false)

pub put_below-requires-in-Ok-clause-free : goal.put_below-requires-in-Ok-clause-free
put_below-requires-in-Ok-clause-free g c =
    let shape : IsTreeValue g.K.PartialEq.eq c.args.self.now = c.check_move.ensures.shape in
    subst (λ t. child (g.K.PartialEq.eq c.args.new_name) t c.args.new_parent ≡ None) (sym c.in-Ok.ensures.answer.2) (replaced-free g.K.PartialEq.eq g.met.K.Eq.laws c.args.self.now.keyed c.args.id c.args.new_parent c.args.new_name c.args.overwrite shape.tree
    c.in-Ok-Some.ensures.answer.0 c.in-Ok-Some.other (sym c.in-Ok-Some.ensures.answer.1 ∙ c.in-Ok-Some.field-0-is) c.if-other-id.false)

pub returns-in-Err-clause-below : goal.returns-in-Err-clause-below
returns-in-Err-clause-below g c = λ is. forbidden-below c.args.self.now.keyed g.K.PartialEq.eq c.args.id c.args.new_parent c.args.new_name c.args.overwrite (c.check_move.ensures.shape).tree (c.in-Err.ensures.answer ∙ ap (λ e. Some e) is)

pub returns-in-Ok-None-clause-outside : goal.returns-in-Ok-None-clause-outside
returns-in-Ok-None-clause-outside g c = allowed-outside c.args.self.now.keyed g.K.PartialEq.eq c.args.id c.args.new_parent c.args.new_name c.args.overwrite (c.check_move.ensures.shape).tree c.in-Ok-None.ensures.answer.0

pub returns-then-other-id-clause-outside : goal.returns-then-other-id-clause-outside
returns-then-other-id-clause-outside g c = allowed-outside c.args.self.now.keyed g.K.PartialEq.eq c.args.id c.args.new_parent c.args.new_name c.args.overwrite (c.check_move.ensures.shape).tree c.in-Ok-Some.ensures.answer.0

pub returns-in-Ok-clause-outside : goal.returns-in-Ok-clause-outside
returns-in-Ok-clause-outside g c = allowed-outside c.args.self.now.keyed g.K.PartialEq.eq c.args.id c.args.new_parent c.args.new_name c.args.overwrite (c.check_move.ensures.shape).tree c.in-Ok-Some.ensures.answer.0

pub unreachable-requires : goal.unreachable-requires
unreachable-requires g c =
    none≢some _ (sym (replaced-leaf g.K.PartialEq.eq g.met.K.Eq.laws c.args.self.now.keyed c.args.id c.args.new_parent c.args.new_name c.args.overwrite c.check_move.ensures.shape.tree
    c.in-Ok-Some.ensures.answer.0 c.in-Ok-Some.other (sym c.in-Ok-Some.ensures.answer.1 ∙ c.in-Ok-Some.field-0-is) c.if-other-id.false) ∙ c.in-Err-delete_node.ensures.answer.0)
