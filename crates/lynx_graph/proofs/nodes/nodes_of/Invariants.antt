use Rattle.std.proofs.Common.{◌≡◌, map, take}
use Rattle.lynx_graph.specs.Nodes.{node_among}
use Rattle.lynx_graph.proofs.nodes.nodes_of.Given as goal

abbrev pub invariant-loop-one : goal.invariant-loop-one
invariant-loop-one l = l.nodes ≡ map (node_among l.set l.reached) (take l.one-index l.reached)
