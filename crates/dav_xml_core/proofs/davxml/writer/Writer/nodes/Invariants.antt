use Rattle.std.proofs.Common.{◌≡◌, drop, map}
use Rattle.dav_xml_core.specs.Views.{node_of, writing_of}
use Rattle.dav_xml_core.specs.Writing.{with_nodes}
use Rattle.dav_xml_core.proofs.davxml.writer.Writer.nodes.Given as goal

abbrev pub invariant-loop-node : goal.invariant-loop-node
invariant-loop-node l = with_nodes (writing_of l.self) (map node_of (drop l.node-index l.nodes)) ≡ with_nodes (writing_of l.fn.self) (map node_of l.nodes)
