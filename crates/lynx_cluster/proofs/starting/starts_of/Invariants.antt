use Rattle.std.proofs.Common.{◌≡◌, map, take}
use Rattle.lynx_cluster.specs.Starting.{start_of}
use Rattle.lynx_cluster.proofs.starting.starts_of.Given as goal

abbrev pub invariant-loop-server : goal.invariant-loop-server
invariant-loop-server g l = l.starts.items ≡ map start_of (take l.server-index l.servers)
