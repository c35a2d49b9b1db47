use Rattle.std.proofs.Common.{◌≡◌, ◌++◌}
use Rattle.lynx_cells.specs.Triples.{triples_of}
use Rattle.lynx_cells.proofs.Slots.{shown}
use Rattle.lynx_cells.proofs.cells.Cells.list.Given as goal

abbrev pub invariant-loop-table : goal.invariant-loop-table
invariant-loop-table l = l.list.items ++ triples_of (shown l.table-iterator) ≡ triples_of (shown l.initial.table-iterator)
