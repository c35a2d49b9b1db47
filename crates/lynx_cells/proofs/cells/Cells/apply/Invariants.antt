use Rattle.std.proofs.Common.{◌≡◌, drop}
use Rattle.lynx_cells.specs.Database.{written}
use Rattle.lynx_cells.specs.Triples.{entries_of}
use Rattle.lynx_cells.proofs.cells.Cells.apply.Given as goal

-- the changes that are left, written over the cells so far, give all of them
abbrev pub invariant-loop-table : goal.invariant-loop-table
invariant-loop-table l = record {
  database : written (entries_of (drop l.table-index l.table-items)) l.self.database ≡ written (entries_of l.table-items) l.fn.self.database;
  staged : l.self.staged ≡ l.fn.self.staged;
}
