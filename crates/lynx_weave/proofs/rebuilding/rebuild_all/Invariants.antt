use Rattle.std.proofs.Common.{◌≡◌, ◌≤◌, drop, length}
use Rattle.lynx_weave.specs.Rebuilt.{histories_in}
use Rattle.lynx_weave.proofs.Rebuildings.{AreRebuiltBelow}
use Rattle.lynx_weave.proofs.rebuilding.rebuild_all.Given as goal

abbrev pub invariant-loop-number : goal.invariant-loop-number
invariant-loop-number l = record {
  rebuilt : AreRebuiltBelow l.set (histories_in l.fn.histories.items) l.number l.servers.items;
  rest : l.histories.rest.items ≡ drop l.number l.fn.histories.items;
  count : l.count ≡ length l.fn.histories.items;
  within : l.number ≤ l.count;
}
