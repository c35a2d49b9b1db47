use Rattle.std.proofs.Common.{◌≡◌, ◌≤◌}
use Rattle.lynx_cluster.proofs.Records.{AreRecordsBelow}
use Rattle.lynx_cluster.specs.Records.{request_of}
use Rattle.lynx_cluster.proofs.cluster.Frontend.find.Given as goal

abbrev pub invariant-loop-server : goal.invariant-loop-server
invariant-loop-server g l = record {
  records : AreRecordsBelow l.fn.self.set l.request l.server l.found.items;
  within : l.server ≤ l.fn.self.set.servers;
}
