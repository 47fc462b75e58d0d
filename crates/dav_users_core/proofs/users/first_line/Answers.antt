use Rattle.dav_users_core.proofs.FileLemmas.{line_alone, line_at}
use Rattle.dav_users_core.proofs.users.first_line.Goals as goal

pub returns-in-Some-clause-lines : goal.returns-in-Some-clause-lines
returns-in-Some-clause-lines c = line_at c.args.bytes.now c.in-Some.end c.in-Some.ensures

pub returns-in-None-clause-lines : goal.returns-in-None-clause-lines
returns-in-None-clause-lines c = line_alone c.args.bytes.now c.requires.some c.in-None.ensures
