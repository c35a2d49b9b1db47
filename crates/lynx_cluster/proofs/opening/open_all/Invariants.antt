use Rattle.std.proofs.Common.{◌≡◌, ◌≤◌, drop, length}
use Rattle.lynx_cluster.proofs.Openings.{AreOpenedBelow}
use Rattle.lynx_cluster.proofs.opening.open_all.Given as goal

abbrev pub invariant-loop-number : goal.invariant-loop-number
invariant-loop-number g l = record {
  opened : AreOpenedBelow g.K.Keeper.terms l.set l.fn.keepers.items l.number l.servers.items;
  rest : l.keepers.rest.items ≡ drop l.number l.fn.keepers.items;
  count : l.count ≡ length l.fn.keepers.items;
  within : l.number ≤ l.count;
}
