use Rattle.std.proofs.Common.{◌≡◌, ◌++◌, drop}
use Rattle.lynx_graph.specs.Edges.{edges_from}
use Rattle.lynx_graph.proofs.edges.add_edges.Given as goal

-- the edges so far and those that are left are the whole
abbrev pub invariant-loop-right : goal.invariant-loop-right
invariant-loop-right l = l.edges ++ edges_from l.set l.left (drop l.right-index l.others) ≡ l.fn.edges ++ edges_from l.set l.left l.others
