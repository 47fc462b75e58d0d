use Rattle.std.proofs.Common.{subst, sym}
use Rattle.std.proofs.lemmas.Bool.{false≢true}
use Rattle.std.specs.Prelude.{IsUtf8, map, option_copied}
use Rattle.dav_xml_core.specs.Views.{node_of}
use Rattle.dav_xml_core.proofs.NodesLemmas.{alone_again}
use Rattle.dav_documents_core.proofs.KeptReadingLaws.{kept_could}
use Rattle.dav_documents_core.proofs.WrittenTextLemmas.{document_is_text}
use Rattle.dav_documents_core.proofs.lock_infos.text_in.Goals as goal

pub unreachable-requires : goal.unreachable-requires
unreachable-requires c =
    let read = alone_again _ (kept_could (option_copied c.args.lang) (map node_of c.args.owner.now) c.requires.lang c.requires.read) in
    false≢true (c.in-Err.ensures.succeeds (subst IsUtf8 (sym c.in_ok-kept_xml.ensures) (document_is_text _ _ read)))
