use Rattle.dav_headers_core.specs.IfValues.{located_list}
use Rattle.dav_headers_core.proofs.lists.EveryLemmas.{copies_shown}
use Rattle.dav_headers_core.proofs.davheaders.if_headers.IfClone.clone.Goals as goal

pub returns : goal.returns
returns c = record { cases = copies_shown located_list c.args.self.now.0.items c.in_ok-clone.field-0.items c.in_ok-clone.ensures.cases.0 }
