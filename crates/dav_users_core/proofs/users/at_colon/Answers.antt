use Rattle.std.proofs.Common.{None, arith}
use Rattle.std.proofs.lemmas.Str.Pattern.{split_once_first}
use Rattle.dav_users_core.proofs.FileLemmas.{no_colon}
use Rattle.dav_users_core.proofs.users.at_colon.Goals as goal

pub returns-in_err-name-clause-none : goal.returns-in_err-name-clause-none
returns-in_err-name-clause-none c = λ _. no_colon c.args.text.now (split_once_first 58 c.args.text.now None c.in_err-name.ensures.cases (omega arith))
