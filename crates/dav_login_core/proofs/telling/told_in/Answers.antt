use Rattle.std.proofs.Common.{rules}
use Rattle.dav_login_core.proofs.LastLemmas.{last_behind}
use Rattle.dav_login_core.proofs.telling.told_in.Goals as goal

pub returns-in-Some-next_back : goal.returns-in-Some-next_back
returns-in-Some-next_back c = search (rules, last_behind)
