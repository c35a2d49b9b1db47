use Rattle.lynx_weave.specs.Servers.{histories_of}
use Rattle.lynx_cluster.specs.inner.Settling.{AreSettled}
use Rattle.lynx_cluster.proofs.settling.settle_at.Given as goal

abbrev pub invariant-loop-acknowledgement : goal.invariant-loop-acknowledgement
invariant-loop-acknowledgement g l = AreSettled (histories_of l.initial.servers) l.initial.servers l.servers
