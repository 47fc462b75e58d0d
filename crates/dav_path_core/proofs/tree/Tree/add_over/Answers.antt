use Rattle.std.proofs.Common.{refl, sym, ap, ◌∙◌}
use Rattle.dav_path_core.specs.View.{tree_value_of}
use Rattle.dav_path_core.proofs.children.Links.{shape_of}
use Rattle.dav_path_core.proofs.children.Hanging.{IsLinked-over, known-over, over_not_root, keyed-over}
use Rattle.dav_path_core.proofs.tree.Tree.add_over.Goals as goal

pub returns-in_err-put_new-clause-shape : goal.returns-in_err-put_new-clause-shape
returns-in_err-put_new-clause-shape g c = shape_of c.self.invariant (ap (λ es. tree_value_of es c.self.inside.next) (sym c.in_err-put_new.ensures.err))

pub invariant_of-self-2 : goal.invariant_of-self-2
invariant_of-self-2 g c =
    IsLinked-over g.K.PartialEq.eq g.met.K.Eq.laws c.self.inside.nodes.entries c.put_new.new.nodes.entries c.hang.new.nodes.entries c.self.inside.next c.args.parent c.args.key c.args.item c.args.old c.self.invariant
    c.args.self.now c.self.view_is c.requires.known c.requires.taken c.in_ok-put_new.ensures.ok c.hang.ensures

pub cut_out-requires-clause-known : goal.cut_out-requires-clause-known
cut_out-requires-clause-known g c =
    known-over g.K.PartialEq.eq g.met.K.Eq.laws c.self.inside.nodes.entries c.put_new.new.nodes.entries c.hang.new.nodes.entries c.self.inside.next c.args.parent c.args.key c.args.item c.args.old c.self.invariant
    c.args.self.now c.self.view_is c.requires.known c.requires.taken c.in_ok-put_new.ensures.ok c.hang.ensures

pub cut_out-requires-clause-not_root : goal.cut_out-requires-clause-not_root
cut_out-requires-clause-not_root g c =
    over_not_root g.K.PartialEq.eq g.met.K.Eq.laws c.self.inside.nodes.entries c.put_new.new.nodes.entries c.hang.new.nodes.entries c.self.inside.next c.args.parent c.args.key c.args.item c.args.old c.self.invariant
    c.args.self.now c.self.view_is c.requires.known c.requires.taken c.in_ok-put_new.ensures.ok c.hang.ensures

pub returns-clause-answer : goal.returns-clause-answer
returns-clause-answer g c = (
  refl,
  (
    ap (λ t. t.keyed.next) c.self.view_is,
    c.cut_out.ensures.cut
        ∙ keyed-over g.K.PartialEq.eq g.met.K.Eq.laws c.self.inside.nodes.entries c.put_new.new.nodes.entries c.hang.new.nodes.entries c.self.inside.next c.args.parent c.args.key c.args.item c.args.old c.self.invariant
        c.args.self.now c.self.view_is c.requires.known c.requires.taken c.in_ok-put_new.ensures.ok c.hang.ensures,
  ),
)
