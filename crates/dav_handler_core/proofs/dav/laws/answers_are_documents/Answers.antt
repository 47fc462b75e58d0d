use Rattle.dav_handler_core.proofs.KeptStoreLaws.{begins_kept, run_keeps}
use Rattle.dav_handler_core.proofs.ToldDocumentLaws.{answer_told, patch_told}
use Rattle.dav_handler_core.proofs.dav.laws.answers_are_documents.Goals as goal

pub returns : goal.returns
returns c = record {
  told = answer_told;
  patched = patch_told;
  kept = λ begun s new run. run_keeps begun s (begins_kept begun new) run;
}
