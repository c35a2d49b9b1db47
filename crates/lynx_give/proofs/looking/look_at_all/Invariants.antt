use Rattle.std.proofs.Common.{◌≡◌, ◌≤◌, length}
use Rattle.sqlite.specs.Held.{state}
use Rattle.lynx_give.specs.Given.{Each, IsFound}
use Rattle.lynx_give.proofs.looking.look_at_all.Given as goal

-- what stands in the places of the servers so far
abbrev pub invariant-loop-number : goal.invariant-loop-number
invariant-loop-number g l = record {
  many : length l.found.items ≡ l.number;
  each : Each (IsFound (λ conn. state g.D.Store conn) (g.S.Databases.opened_at l.fn.folder) l.fn.set) 0 l.found.items l.places.items;
  count : l.count ≡ l.fn.set.servers;
  within : l.number ≤ l.count;
}
