use Rattle.std.proofs.Common.{refl}
use Rattle.dav_path_core.proofs.children.Views.{view-lone}
use Rattle.dav_path_core.proofs.children.Links.{IsLinked-lone, shape_of}
use Rattle.dav_path_core.proofs.tree.Tree.new.Goals as goal

pub invariant_of-result : goal.invariant_of-result
invariant_of-result g c =
    IsLinked-lone g.K.PartialEq.eq c.new-nodes.result c.insert.new.self _ c.new-nodes.ensures.empty refl refl refl c.in-Ok.ensures.updates

pub returns-in-Ok-clause-shape : goal.returns-in-Ok-clause-shape
returns-in-Ok-clause-shape g c = shape_of (IsLinked-lone g.K.PartialEq.eq c.new-nodes.result c.insert.new.self _ c.new-nodes.ensures.empty refl refl refl c.in-Ok.ensures.updates) refl

pub returns-in-Ok-clause-answer : goal.returns-in-Ok-clause-answer
returns-in-Ok-clause-answer g c = (refl, view-lone c.new-nodes.result c.insert.new.self _ c.new-nodes.ensures.empty refl c.in-Ok.ensures.updates)
