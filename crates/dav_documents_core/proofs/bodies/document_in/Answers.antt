use Rattle.std.proofs.Common.{◌<◌, ◌^◌, arith, length}
use Rattle.dav_xml_core.proofs.ReadNodesLemmas.{read_room}
use Rattle.dav_documents_core.proofs.bodies.document_in.Goals as goal

pub returns-clause-readable : goal.returns-clause-readable
returns-clause-readable c =
    let small : length c.args.body.now < 2 ^ 64 = omega arith in
    record { could = c.in_ok-read.ensures.readable; room = read_room c.args.body.now _ small c.in_ok-read.ensures.document }
