use Rattle.std.proofs.Common.{◌≡◌, ◌++◌, take}
use Rattle.std.specs.List.{flat_map}
use Rattle.lynx_show.specs.Reads.{line_within}
use Rattle.lynx_show.proofs.reading.put_cells.Given as goal

-- the cells so far
abbrev pub invariant-loop-cell : goal.invariant-loop-cell
invariant-loop-cell l =
    l.text.items ≡ l.initial.text.items ++ flat_map (line_within l.set l.table l.range) (take l.cell-index l.cells)
