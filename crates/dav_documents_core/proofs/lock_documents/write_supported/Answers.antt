use Rattle.std.proofs.Common.{Bool, not, ◌≡◌, codes, false, true, refl, sym, ap, ◌∙◌}
use Rattle.std.proofs.lemmas.Result.{on_ok_weaker}
use Rattle.dav_xml_core.specs.Views.{writing_of}
use Rattle.dav_xml_core.specs.Writing.{Writing, with_end, with_nodes}
use Rattle.dav_documents_core.specs.LockDocuments.{kind_nodes}
use Rattle.dav_documents_core.specs.RefusalBodies.{element}
use Rattle.dav_documents_core.proofs.FixedLemmas.{supported_fixed}
use Rattle.dav_documents_core.proofs.lock_documents.write_supported.Goals as goal

has_begun : (b : Bool) → not b ≡ true → b ≡ false
has_begun false h = refl
has_begun true h = cc

pub returns-then-is_inside : goal.returns-then-is_inside
returns-then-is_inside c =
    let w = writing_of c.args.writer.now in
    on_ok_weaker c.kept.result (λ told. told ∙ sym (supported_fixed w.first w.bytes w.begun (has_begun _ (sym c.is_inside.ensures ∙ c.if-is_inside.true)))) c.kept.ensures

pub returns : goal.returns
returns c =
    let first = c.in_ok-write_entry.ensures ∙ ap (λ (w : Writing). with_nodes w (element (codes "lockentry") (kind_nodes false))) c.in_ok-begin.ensures in
    let second = c.in_ok-write_entry-2.ensures ∙ ap (λ (w : Writing). with_nodes w (element (codes "lockentry") (kind_nodes true))) first in
    on_ok_weaker c.end.result (λ ended. ended ∙ ap with_end second) c.end.ensures
