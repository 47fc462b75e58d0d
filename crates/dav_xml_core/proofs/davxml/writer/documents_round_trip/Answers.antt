use Rattle.dav_xml_core.proofs.NodesLemmas.{alone_on, alone_again, parts_again, written_again}
use Rattle.dav_xml_core.proofs.PlacedLemmas.{placed}
use Rattle.dav_xml_core.proofs.ReadNodesLemmas.{read_could, read_room}
use Rattle.dav_xml_core.proofs.davxml.writer.documents_round_trip.Goals as goal

pub returns : goal.returns
returns c = record {
  whole = written_again;
  element = alone_again;
  read = read_could;
  room = read_room;
  kept = parts_again;
  placed = placed;
  alone = alone_on;
}
