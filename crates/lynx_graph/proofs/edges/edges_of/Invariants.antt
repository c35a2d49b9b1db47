use Rattle.std.proofs.Common.{◌≡◌, ◌++◌, drop}
use Rattle.lynx_graph.specs.Edges.{edges_among}
use Rattle.lynx_graph.proofs.edges.edges_of.Given as goal

-- the edges so far and those that are left are the whole
abbrev pub invariant-loop-number : goal.invariant-loop-number
invariant-loop-number l = l.edges ++ edges_among l.set (drop l.number l.places) ≡ edges_among l.set l.places
