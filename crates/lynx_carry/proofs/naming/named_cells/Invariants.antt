use Rattle.std.proofs.Common.{◌≡◌, take}
use Rattle.std.specs.List.{filter_map}
use Rattle.lynx_carry.specs.Naming.{named_cell}
use Rattle.lynx_carry.proofs.naming.named_cells.Given as goal

-- the cells so far are named
abbrev pub invariant-loop-cell : goal.invariant-loop-cell
invariant-loop-cell l = l.named.items ≡ filter_map (named_cell l.set) (take l.cell-index l.cells)
