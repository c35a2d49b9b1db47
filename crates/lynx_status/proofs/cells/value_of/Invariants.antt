use Rattle.std.proofs.Common.{◌≡◌, drop}
use Rattle.lynx_status.specs.Cells.{value_of}
use Rattle.lynx_status.proofs.cells.value_of.Given as goal

-- what the cells hold that are left
abbrev pub invariant-loop-cell : goal.invariant-loop-cell
invariant-loop-cell l = value_of l.key l.cells ≡ value_of l.key (drop l.cell-index l.cells)
