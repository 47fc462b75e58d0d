use Rattle.std.proofs.Common.{true, false, ap, ◌∙◌, append_assoc}
use Rattle.std.specs.Prelude.{codes, flat_map}
use Rattle.dav_xml_core.specs.Optional.{◌>>=◌}
use Rattle.dav_xml_core.specs.Reading.{content_of}
use Rattle.dav_xml_core.specs.References.{value_of}
use Rattle.dav_xml_core.proofs.BytesLemmas.{escaped_characters}
use Rattle.dav_xml_core.proofs.EscapeLemmas.{text_again, value_again}
use Rattle.dav_xml_core.specs.Markup.{piece_at}
use Rattle.dav_xml_core.specs.Writing.{escaped_character}
use Rattle.dav_xml_core.proofs.TagLemmas.{text_piece_again}
use Rattle.dav_xml_core.proofs.davxml.writer.texts_round_trip.Goals as goal

pub returns : goal.returns
returns c = record {
  texts = text_again;
  values = value_again;
  text_bytes = λ text h. ap (λ o. o >>= content_of) (escaped_characters false text h) ∙ text_again text;
  value_bytes = λ text h. ap (λ o. o >>= value_of) (escaped_characters true text h) ∙ value_again text;
  pieces = λ text rest h. ap piece_at (append_assoc (flat_map (escaped_character false) text) (codes "<") rest) ∙ text_piece_again text rest h;
}
