use Rattle.dav_fields_core.proofs.TagGrammarLaws.{by_grammar}
use Rattle.dav_fields_core.proofs.preconditions.laws.tags_are_read_by_their_grammar.Goals as goal

pub returns : goal.returns
returns c = by_grammar
