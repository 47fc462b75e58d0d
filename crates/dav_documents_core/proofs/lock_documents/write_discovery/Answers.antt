use Rattle.std.proofs.Common.{List, codes, option_map, ap, sym, ◌∙◌}
use Rattle.std.specs.Prelude.{flat_map, string_bytes}
use Rattle.std.proofs.lemmas.List.{at_drop_all}
use Rattle.std.proofs.lemmas.Result.{on_ok_weaker}
use Rattle.dav_locks_core.specs.Lock.{Lock}
use Rattle.dav_xml_core.specs.Views.{writing_of}
use Rattle.dav_xml_core.specs.Writing.{Writing, with_end}
use Rattle.dav_documents_core.specs.LockDocuments.{active_lock}
use Rattle.dav_documents_core.specs.Pieces.{DocumentPiece, and_pieces}
use Rattle.dav_documents_core.proofs.PieceLemmas.{in_element}
use Rattle.dav_documents_core.proofs.lock_documents.write_discovery.Goals as goal

pub loop-lock-init : goal.loop-lock-init
loop-lock-init c =
    let told : List DocumentPiece = flat_map (active_lock c.args.prefix.now (option_map string_bytes c.args.principal.now) c.args.now.0) c.args.locks.now in
    ap (λ (w : Writing). and_pieces w told) c.in_ok-begin.ensures

pub returns : goal.returns
returns c =
    let shown = active_lock c.args.prefix.now (option_map string_bytes c.args.principal.now) c.args.now.0 in
    let at_end = at_drop_all (λ (rest : List Lock). and_pieces (writing_of c.loop-lock.writer) (flat_map shown rest)) c.args.locks.now c.loop-lock.lock-index c.loop-lock-test.false in
    on_ok_weaker c.end.result
    (λ ended. ended ∙ ap with_end (sym at_end ∙ c.loop-lock.invariant)
    ∙ sym (in_element (writing_of c.args.writer.now) (codes "lockdiscovery") (flat_map shown c.args.locks.now))) c.end.ensures
