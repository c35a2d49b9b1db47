-- What the rows that the cells' query shows tell.
use Rattle.std.specs.Prelude.{◌≡◌, ◌≢◌, ℕ, ◌^◌, ◌<◌, pos, negsuc, List, [], ◌∷◌, map}
use Rattle.std.specs.Int.{w64, from_be_bytes, to_be_bytes}
use Rattle.std.specs.List.{AllByRecursion}
use Rattle.std.specs.FinMap as finite
use Rattle.sqlite.specs.Order.{Row}
use Rattle.sqlite_value.specs.declared.value.Value.{Value}
use Rattle.sqlite_value.specs.declared.value.Value.TheVariants.{Null, Int, Real, Text, Blob}
use Rattle.sqlite_value.specs.Order.{column, bytes}
use Rattle.lynx_names.specs.declared.limits.TheConstants.{MAX_TABLES}
use Rattle.lynx_cells.specs.Database.{ChangeSet, Database, applied, empty_database}

abbrev pub natural : Value → ℕ
natural (Int (pos n)) = n
natural (Int (negsuc n)) = 0
natural Null = 0
natural (Real x) = 0
natural (Text t) = 0
natural (Blob b) = 0

-- the cell and the value of a row
abbrev pub entry_in : Row → (ℕ × ℕ) × ℕ
entry_in row = (
  (natural (column row 0), from_be_bytes w64 (bytes (column row 1))),
  from_be_bytes w64
      (bytes (column row 2)),
)

-- the changes, with those of the rows
abbrev pub with_rows : List Row → ChangeSet → ChangeSet
with_rows [] changes = changes
with_rows (row ∷ rows) changes =
    with_rows rows (finite.insert changes (entry_in row).0 (entry_in row).1)

-- the cells of the rows, of which a later one wins
abbrev pub cells_in : List Row → Database
cells_in rows = applied (with_rows rows finite.empty) empty_database

-- the row of a cell: a table, a key and a value
abbrev pub row_of : ℕ × ℕ × ℕ → Row
row_of cell = Int (pos cell.0) ∷ Blob (to_be_bytes w64 cell.1) ∷ Blob (to_be_bytes w64 cell.2) ∷ []

pub record FitsRow (cell : ℕ × ℕ × ℕ) : Type 0 where
  pub table : cell.0 < MAX_TABLES
  pub key : cell.1 < 2 ^ 64
  pub value : cell.2 < 2 ^ 64
  pub nonzero : cell.2 ≢ 0

-- each row has the form of a cell that isn't 0
pub record AreCells (rows : List Row) : Type 0 where
  pub cells : List (ℕ × ℕ × ℕ)
  pub rows_are : rows ≡ map row_of cells
  pub fit : AllByRecursion FitsRow cells
