use Rattle.std.proofs.Common.{Some, None}
use Rattle.dav_xml_core.specs.Scopes.{place_at}
use Rattle.dav_xml_core.proofs.ScopeLemmas.{puts_from, inserted}
use Rattle.dav_xml_core.proofs.davxml.scope.put_back.Goals as goal

pub returns-in-Some : goal.returns-in-Some
returns-in-Some c = rw c.in-Some.is (puts_from c.args.prefix.now c.args.innermost.now c.insert.new.self (Some c.in-Some.place) (inserted c.insert.result (place_at c.args.innermost.now c.args.prefix.now) c.requires c.insert.ensures.absent c.insert.ensures.updates))

pub returns-in-None : goal.returns-in-None
returns-in-None c = rw c.in-None.is (puts_from c.args.prefix.now c.args.innermost.now c.remove.new.self None c.remove.ensures.updates)
