use Rattle.std.proofs.Common.{◌∙◌, Some, option_map, sym, ap}
use Rattle.dav_xml_core.specs.Writing.{document_bytes}
use Rattle.dav_faults_core.specs.declared.faults.Fault.{Fault}
use Rattle.dav_documents_core.specs.RefusalBodies.{refusal_nodes}
use Rattle.dav_documents_core.proofs.refusal_documents.document_of.Goals as goal

pub returns-in_ok-failed_condition-in-NoSuchLock : goal.returns-in_ok-failed_condition-in-NoSuchLock
returns-in_ok-failed_condition-in-NoSuchLock c =
    ap Some c.in_ok-failed_condition-in-NoSuchLock.ensures ∙ ap (λ (e : Fault). option_map document_bytes (refusal_nodes c.args.prefix.now e)) (sym c.in-NoSuchLock.is)

pub returns-in_ok-failed_condition-in-InfiniteDepth : goal.returns-in_ok-failed_condition-in-InfiniteDepth
returns-in_ok-failed_condition-in-InfiniteDepth c =
    ap Some c.in_ok-failed_condition-in-InfiniteDepth.ensures ∙ ap (λ (e : Fault). option_map document_bytes (refusal_nodes c.args.prefix.now e)) (sym c.in-InfiniteDepth.is)
