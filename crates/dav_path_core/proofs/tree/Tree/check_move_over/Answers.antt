use Rattle.std.proofs.Common.{◌&&◌, ap, sym, ◌∙◌, is_some}
use Rattle.dav_path_core.specs.Keyed.{entry, is_kept}
use Rattle.dav_path_core.proofs.trees.Refusals.{move-allowed}
use Rattle.dav_path_core.proofs.tree.Tree.check_move_over.Goals as goal

pub returns-clause-answer : goal.returns-clause-answer
returns-clause-answer g c =
    move-allowed c.args.self.now.keyed g.K.PartialEq.eq c.args.id c.args.new_parent c.args.new_name.now c.args.overwrite
    (ap (λ b. b && is_some (entry c.args.self.now.keyed c.args.new_parent)) (sym c.if-not-is_known.ensures.known) ∙ sym c.if-not-is_known-2.ensures.known)
    (ap (is_kept c.args.self.now.keyed c.args.overwrite) (sym c.requires.taken) ∙ sym c.if-is_kept.ensures)
    c.if-id-eq-ROOT_ID.false
    (sym c.if-is_below.ensures)
