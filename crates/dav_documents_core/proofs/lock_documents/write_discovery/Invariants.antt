use Rattle.std.proofs.Common.{◌≡◌, [], codes, drop, option_map}
use Rattle.std.specs.Prelude.{flat_map, string_bytes}
use Rattle.dav_xml_core.specs.Views.{writing_of}
use Rattle.dav_xml_core.specs.Writing.{with_start}
use Rattle.dav_documents_core.specs.LockDocuments.{active_lock}
use Rattle.dav_documents_core.specs.Pieces.{and_pieces}
use Rattle.dav_documents_core.specs.RefusalBodies.{dav_name}
use Rattle.dav_documents_core.proofs.lock_documents.write_discovery.Given as goal

-- what is still to be told of, behind what is told, makes the whole
abbrev pub invariant-loop-lock : goal.invariant-loop-lock
invariant-loop-lock l =
    and_pieces (writing_of l.writer) (flat_map (active_lock l.prefix (option_map string_bytes l.principal) l.now.0) (drop l.lock-index l.locks))
    ≡ and_pieces (with_start (writing_of l.fn.writer) (dav_name (codes "lockdiscovery")) [])
    (flat_map (active_lock l.prefix (option_map string_bytes l.principal) l.now.0) l.locks)
