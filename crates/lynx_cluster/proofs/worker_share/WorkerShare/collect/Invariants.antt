use Rattle.std.proofs.Common.{◌≤◌, length}
use Rattle.lynx_resting.specs.Resting.{settled_front, settled_part}
use Rattle.lynx_cluster.specs.inner.Serving.{AreOwedBetween}
use Rattle.lynx_cluster.proofs.worker_share.WorkerShare.collect.Given as goal

abbrev pub invariant-loop : goal.invariant-loop
invariant-loop g l = record {
  owed : AreOwedBetween (settled_part l.state) l.from l.dues.items l.next;
  within : l.next ≤ length (settled_front l.state);
}
