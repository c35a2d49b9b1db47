use Rattle.lynx_resting.specs.Resting.{settled_part}
use Rattle.lynx_cluster.proofs.Owings.{AreGoneOver}
use Rattle.lynx_cluster.proofs.worker_share.WorkerShare.collect_at.Given as goal

abbrev pub invariant-loop-place : goal.invariant-loop-place
invariant-loop-place g l = AreGoneOver (settled_part l.state) l.places l.place-index l.clear l.dues.items
