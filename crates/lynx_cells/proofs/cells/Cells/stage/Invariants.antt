use Rattle.std.proofs.Common.{◌≡◌, drop}
use Rattle.std.specs.FinSet as set
use Rattle.lynx_cells.specs.Contents.{KeepsStaged}
use Rattle.lynx_cells.proofs.Staging.{cells_of}
use Rattle.lynx_cells.proofs.cells.Cells.stage.Given as goal

-- the slots so far, with those of the changes that are left, are all
abbrev pub invariant-loop-table : goal.invariant-loop-table
invariant-loop-table l = record {
  database : l.self.database ≡ l.fn.self.database;
  keeps : KeepsStaged l.fn.self l.self;
  room : set.union l.self.staged (set.from_list (cells_of (drop l.table-index l.table-items))) ≡ set.union l.fn.self.staged (set.from_list (cells_of l.table-items));
}
