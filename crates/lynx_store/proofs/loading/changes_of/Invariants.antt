use Rattle.std.proofs.Common.{◌≡◌, take}
use Rattle.std.specs.FinMap as finite
use Rattle.lynx_sql.specs.Shown.{AreCells, with_rows}
use Rattle.lynx_store.proofs.loading.changes_of.Given as goal

-- the cells of the rows so far
abbrev pub invariant-loop-row : goal.invariant-loop-row
invariant-loop-row l = record {
  are : AreCells (take l.row-index l.rows);
  changes : l.changes ≡ with_rows (take l.row-index l.rows) finite.empty;
}
