use Rattle.std.proofs.Common.{◌≡◌, ◌++◌, take}
use Rattle.lynx_show.specs.Listing.{cell_lines}
use Rattle.lynx_show.proofs.listing.put_cells.Given as goal

-- the cells so far have their lines
abbrev pub invariant-loop-table : goal.invariant-loop-table
invariant-loop-table l = l.text.items ≡ l.initial.text.items ++ cell_lines l.set (take l.table-index l.cells)
