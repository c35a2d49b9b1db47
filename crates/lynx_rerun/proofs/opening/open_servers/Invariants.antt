use Rattle.std.proofs.Common.{◌≡◌, length}
use Rattle.lynx_rerun.proofs.Opened.{AreOpenedBelow}
use Rattle.lynx_rerun.proofs.opening.open_servers.Given as goal

-- the servers so far are opened, each over its keeper
abbrev pub invariant-loop-number : goal.invariant-loop-number
invariant-loop-number g l = record {
  below : AreOpenedBelow g.K.Keeper.terms l.fn.set l.fn.keepers.items l.keepers.rest.items l.number l.servers.items;
  count : l.number-end ≡ length l.fn.keepers.items;
}
