use Rattle.std.proofs.Common.{◌≡◌, ◌++◌}
use Rattle.lynx_rerun.specs.Reruns.{keepers_of}
use Rattle.lynx_rerun.proofs.closing.keepers_of.Given as goal

-- the keepers of the servers so far, and the others are left
abbrev pub invariant-loop-server : goal.invariant-loop-server
invariant-loop-server g l = record {
  kept : l.keepers.items ≡ keepers_of l.yielded;
  split : l.fn.servers.items ≡ l.yielded ++ l.server-iterator.rest.items;
}
