use Rattle.std.proofs.Common.{◌≡◌, ◌≤◌, ◌-◌, length}
use Rattle.lynx_weave.specs.Rebuilt.{histories_in}
use Rattle.lynx_cluster.proofs.Takings.{AreTakenBelow}
use Rattle.lynx_cluster.proofs.taking.take_all.Given as goal

abbrev pub invariant-loop-number : goal.invariant-loop-number
invariant-loop-number g l = record {
  taken : AreTakenBelow g.K.Keeper.terms l.set l.number (histories_in l.taken.histories.items) l.taken.keepers.items;
  rest : length l.shared_servers.rest.items ≡ l.count - l.number;
  count : l.count ≡ l.set.servers;
  within : l.number ≤ l.count;
}
