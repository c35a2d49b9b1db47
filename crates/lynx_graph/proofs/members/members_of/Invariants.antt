use Rattle.std.proofs.Common.{◌≡◌, drop}
use Rattle.lynx_graph.specs.inner.Joining.{alone, joined_by}
use Rattle.lynx_graph.proofs.members.members_of.Given as goal

-- the edges that are left make of the members so far what all make
abbrev pub invariant-loop-edge : goal.invariant-loop-edge
invariant-loop-edge l = joined_by l.members.items (drop l.edge-index l.edges) ≡ joined_by (alone l.set) l.edges
