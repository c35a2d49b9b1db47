use Rattle.std.proofs.Common.{◌≡◌, ◌≤◌, length}
use Rattle.sqlite.specs.Held.{state}
use Rattle.lynx_give.proofs.Listed.{AreGivenBelow}
use Rattle.lynx_give.proofs.extending.extend_all.Given as goal

-- the stores of the servers so far are given to the set
abbrev pub invariant-loop-number : goal.invariant-loop-number
invariant-loop-number g l = record {
  below : AreGivenBelow (λ conn. state g.D.Store conn) l.fn.set l.fn.stores.items l.stores.rest.items l.number l.given.items (g.W.Write.contents l.initial.writer) (g.W.Write.contents l.writer);
  count : l.count ≡ length l.fn.stores.items;
  within : l.number ≤ l.count;
}
