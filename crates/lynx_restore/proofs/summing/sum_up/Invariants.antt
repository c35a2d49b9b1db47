use Rattle.std.proofs.Common.{◌≡◌, ◌++◌, drop}
use Rattle.lynx_restore.specs.Restored.{restored_of, undone_of}
use Rattle.lynx_restore.proofs.summing.sum_up.Given as goal

-- what is there, and what is left to add, is the whole
abbrev pub invariant-loop-number : goal.invariant-loop-number
invariant-loop-number g l = record {
  servers : l.restored.servers.items ++ restored_of (drop l.number l.counts) (drop l.number l.servers) ≡ restored_of l.counts l.servers;
  undone : l.restored.undone.items ++ undone_of (drop l.number l.counts) (drop l.number l.servers) ≡ undone_of l.counts l.servers;
}
