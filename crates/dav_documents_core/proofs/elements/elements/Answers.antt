use Rattle.std.proofs.Common.{◌≡◌, List, [], ◌∷◌, ◌++◌, ◌+◌, map, ap, ◌∙◌, arith}
use Rattle.std.proofs.lemmas.List.{map_push}
use Rattle.dav_xml_core.specs.Documents.{Node}
use Rattle.dav_xml_core.specs.Views.{node_of}
use Rattle.dav_documents_core.proofs.ChildLemmas.{begun, between, ended, gone_on, part_between}
use Rattle.dav_documents_core.proofs.elements.elements.Goals.{then-depth-eq0, else-depth-eq0+then-behind-eq0+in_ok-push, else-depth-eq0+else-behind-eq0}
use Rattle.dav_documents_core.proofs.elements.elements.Goals as goal

pub loop-at-preserved : goal.loop-at-preserved
loop-at-preserved c =
    let xs = c.args.nodes.now in
    let at = c.loop-at.at in
    let x = c.index-nodes-at.result in
    let found : List (List Node) = map (λ element. map node_of element.now) c.loop-at.found.items in
    let inv = c.loop-at.invariant in
    elim c.if-depth-eq0.branch [
      | then-depth-eq0 w ↦ rw (w.found-is, w.depth-is, w.first-is)
          (begun node_of xs at x c.loop-at-test.true c.index-nodes-at.is found c.loop-at.depth c.loop-at.first c.depth_behind-behind.result inv w.if-depth-eq0.true c.depth_behind-behind.ensures)
      | else-depth-eq0+then-behind-eq0+in_ok-push w ↦
          let pushed : map (λ element. map node_of element.now) w.push.new.self.items ≡ found ++ between c.loop-at.first (at + 1) (map node_of xs) ∷ [] =
          ap (map (λ element. map node_of element.now)) w.in_ok-push.ensures.items ∙ map_push (λ element. map node_of element.now) c.loop-at.found.items _
          ∙ ap (λ (part : List Node). found ++ part ∷ []) (part_between node_of xs c.loop-at.first (at + 1) (omega (arith, inv.before))) in
          rw (w.found-is, w.depth-is, w.first-is, pushed)
          (ended node_of xs at x c.loop-at-test.true c.index-nodes-at.is found c.loop-at.depth c.loop-at.first c.depth_behind-behind.result inv (omega (arith, w.if-depth-eq0.false))
          w.if-behind-eq0.true c.depth_behind-behind.ensures)
      | else-depth-eq0+else-behind-eq0 w ↦ rw (w.found-is, w.depth-is, w.first-is)
          (gone_on node_of xs at x c.loop-at-test.true c.index-nodes-at.is found c.loop-at.depth c.loop-at.first c.depth_behind-behind.result inv (omega (arith, w.if-depth-eq0.false))
          (omega (arith, w.if-behind-eq0.false)) c.depth_behind-behind.ensures)
    ]
