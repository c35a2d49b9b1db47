use Rattle.std.proofs.Common.{◌≡◌, ◌≤◌, drop, length}
use Rattle.lynx_weave.specs.Rebuilt.{histories_in}
use Rattle.lynx_audit.proofs.Openings.{AreOpenedBelow}
use Rattle.lynx_audit.proofs.histories.histories_of.Given as goal

abbrev pub invariant-loop-number : goal.invariant-loop-number
invariant-loop-number g l = record {
  opened : AreOpenedBelow g.K.Keeper.terms l.set l.fn.keepers.items l.number (histories_in l.histories.items);
  rest : l.keepers.rest.items ≡ drop l.number l.fn.keepers.items;
  count : l.count ≡ length l.fn.keepers.items;
  within : l.number ≤ l.count;
}
