use Rattle.std.proofs.Common.{◌≡◌, length}
use Rattle.lynx_cluster.proofs.starting.share_all.Given as goal

abbrev pub invariant-loop-server : goal.invariant-loop-server
invariant-loop-server g l = length l.shared_servers.items ≡ length l.yielded
