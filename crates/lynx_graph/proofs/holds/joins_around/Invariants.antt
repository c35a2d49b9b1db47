use Rattle.std.proofs.Common.{◌≡◌, drop}
use Rattle.lynx_graph.specs.inner.Tests.{joins_around}
use Rattle.lynx_graph.proofs.holds.joins_around.Given as goal

-- what is left to ask decides
abbrev pub invariant-loop-next : goal.invariant-loop-next
invariant-loop-next l = joins_around l.set l.first l.visit (drop l.next-index l.rest) ≡ joins_around l.set l.first l.first l.rest
