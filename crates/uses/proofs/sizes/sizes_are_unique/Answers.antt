use Rattle.uses.proofs.OneSize.{one_size}
use Rattle.uses.proofs.sizes.sizes_are_unique.Goals as goal

pub returns : goal.returns
returns c = λ m p size other first second. one_size m p size first other second
