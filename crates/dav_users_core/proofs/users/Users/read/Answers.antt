use Rattle.dav_users_core.specs.Users.{users_in}
use Rattle.dav_users_core.proofs.FileLemmas.{fault_at}
use Rattle.dav_users_core.proofs.users.Users.read.Goals as goal

pub returns-in-Err : goal.returns-in-Err
returns-in-Err c =
    fault_at c.at_line.result (users_in c.reading.users) c.reading.number c.reading.rest.now c.first_line.result.0.now c.first_line.result.1.now c.args.file.now c.reading.invariant.left c.first_line.ensures.lines
    (c.at_line.ensures _ c.in-Err.ensures.wrong)
