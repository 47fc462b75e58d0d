use Rattle.std.proofs.Common.{refl, sym, ◌∙◌}
use Rattle.dav_documents_core.specs.Elements.{is_dav, element_nodes}
use Rattle.dav_documents_core.proofs.NamedLemmas.{found_again, found_first, skipped}
use Rattle.dav_documents_core.proofs.elements.at_most_one.Goals.{then-is_dav+else-is_some, else-is_dav}
use Rattle.dav_documents_core.proofs.elements.at_most_one.Goals as goal

pub returns-then-is_some-clause-err : goal.returns-then-is_some-clause-err
returns-then-is_some-clause-err c = (
  refl,
  found_again (is_dav c.args.local.now) element_nodes c.args.elements.now c.loop-element.element-index c.element-item.result c.loop-element-test.true c.element-item.is c.loop-element.found
      c.loop-element.invariant (sym c.is_some.ensures ∙ c.if-is_some.true) (sym c.is_dav.ensures ∙ c.if-is_dav.true),
)

pub loop-element-preserved : goal.loop-element-preserved
loop-element-preserved c = elim c.if-is_dav.branch [
  | then-is_dav+else-is_some w ↦ rw w.found-is
      (found_first (is_dav c.args.local.now) element_nodes c.args.elements.now c.loop-element.element-index c.element-item.result c.loop-element-test.true c.element-item.is
      c.loop-element.found c.loop-element.invariant (sym w.is_some.ensures ∙ w.if-is_some.false) (sym c.is_dav.ensures ∙ w.if-is_dav.true))
  | else-is_dav w ↦ rw w.found-is
      (skipped (is_dav c.args.local.now) element_nodes c.args.elements.now c.loop-element.element-index c.element-item.result c.loop-element-test.true c.element-item.is
      c.loop-element.found c.loop-element.invariant (sym c.is_dav.ensures ∙ w.if-is_dav.false))
]
