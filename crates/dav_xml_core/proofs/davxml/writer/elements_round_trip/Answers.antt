use Rattle.dav_xml_core.proofs.StartTextLemmas.{read_back_first, read_back_alone, read_back_inside}
use Rattle.dav_xml_core.proofs.TagBytesLemmas.{first_characters, alone_characters, inside_characters}
use Rattle.dav_xml_core.proofs.davxml.writer.elements_round_trip.Goals as goal

pub returns : goal.returns
returns c = record {
  first = read_back_first;
  alone = read_back_alone;
  inside = read_back_inside;
  first_bytes = first_characters;
  alone_bytes = alone_characters;
  inside_bytes = inside_characters;
}
