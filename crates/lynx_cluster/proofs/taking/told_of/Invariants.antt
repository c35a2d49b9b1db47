use Rattle.std.proofs.Common.{length}
use Rattle.lynx_cluster.proofs.Takings.{AreSpent}
use Rattle.lynx_cluster.proofs.taking.told_of.Given as goal

abbrev pub invariant-loop-session : goal.invariant-loop-session
invariant-loop-session l = AreSpent l.told l.sessions.rest.items l.fn.sessions.items

abbrev pub decreases-loop-session : goal.decreases-loop-session
decreases-loop-session l = length l.sessions.rest.items
