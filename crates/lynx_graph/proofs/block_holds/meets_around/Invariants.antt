use Rattle.std.proofs.Common.{◌≡◌, drop}
use Rattle.lynx_graph.specs.inner.BlockTests.{meets_around}
use Rattle.lynx_graph.proofs.block_holds.meets_around.Given as goal

-- what is left to ask decides
abbrev pub invariant-loop-next : goal.invariant-loop-next
invariant-loop-next l = meets_around l.set l.first l.block (drop l.next-index l.rest) ≡ meets_around l.set l.first l.first l.rest
