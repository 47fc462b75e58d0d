use Rattle.std.proofs.Common.{◌∙◌, map}
use Rattle.std.proofs.lemmas.Iterator.Consumers.{YieldsList-from_rest, YieldsList-end}
use Rattle.dav_files_core.specs.Properties.{shown_property}
use Rattle.dav_files_core.proofs.properties.PropertyMapLemmas.{Kept, listed}
use Rattle.dav_files_core.proofs.memfs.properties.Props.list.Goals as goal

pub returns : goal.returns
returns c =
    let es = c.self.inside.map.entries in
    let t = YieldsList-end (YieldsList-from_rest (map (λ (e : Kept). e.1) es) (cc)) c.loop-prop.yielded _ c.loop-prop.yielded_by _ _ c.in-None.is c.next.ensures.steps in
    c.loop-prop.invariant ∙ listed (shown_property c.args.content) es c.args.self.now c.self.view_is c.values-prop-items.ensures.ordered c.loop-prop.yielded t.0
