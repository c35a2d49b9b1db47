use Rattle.std.proofs.Common.{◌≡◌, ◌≤◌, ◌++◌, length, map}
use Rattle.lynx_cells.specs.Ranges.{key_and_value}
use Rattle.lynx_cells.proofs.Slots.{shown}
use Rattle.lynx_cells.proofs.cells.Cells.list_between.Given as goal

abbrev pub invariant-loop-key : goal.invariant-loop-key
invariant-loop-key l =
    (l.list.items ++ map key_and_value (shown l.key-iterator) ≡ map key_and_value (shown l.initial.key-iterator))
    × (length l.list.items ≤ l.most)
