use Rattle.std.proofs.Common.{◌≡◌, ◌++◌, take}
use Rattle.std.specs.List.{flat_map}
use Rattle.lynx_status.specs.CellLines.{cell_line}
use Rattle.lynx_status.proofs.cell_lines.put_cells.Given as goal

-- the cells so far have their lines
abbrev pub invariant-loop-key : goal.invariant-loop-key
invariant-loop-key l =
    l.text.items ≡ l.initial.text.items ++ flat_map (λ cell. cell_line l.table cell.0 cell.1) (take l.key-index l.cells)
