use Rattle.dav_path_core.specs.MethodSets.{method_words}
use Rattle.dav_path_core.proofs.util.word_bits.Goals as goal

pub returns : goal.returns
unfolding method_words
returns c = c.bits_beside.ensures
