-- The rows of cells.
use Rattle.std.specs.Prelude.{◌≡◌, ◌≢◌, ℕ, ◌^◌, ◌<◌, ℤ, pos, if◌then◌else◌, List, [], ◌∷◌, map, Option, Some, None, IsPermutation}
use Rattle.std.specs.Prelude.{◌<ℤ◌}
use Rattle.std.specs.Int.{w64, to_be_bytes}
use Rattle.std.specs.Ordering.{eq_by_cmp}
use Rattle.std.specs.List.{AllByRecursion}
use Rattle.std.specs.FinMap as finite
use Rattle.sqlite.specs.declared.types.Value.TheVariants.{Int, Blob}
use Rattle.sqlite.specs.Order.{Row}
use Rattle.sqlite_trees.specs.Tree.{IsAscending}
use Rattle.lynx_names.specs.declared.limits.TheConstants.{MAX_TABLES}
use Rattle.lynx_cells.specs.Database.{cell_cmp, Database}

-- a cell as it is stored, under its row number
pub record Stored : Type 0 where
  pub id : ℤ
  pub table : ℕ
  pub key : ℕ
  pub value : ℕ

abbrev pub cell_row : Stored → Row
cell_row s =
    Int s.id ∷ Int (pos s.table) ∷ Blob (to_be_bytes w64 s.key) ∷ Blob (to_be_bytes w64 s.value)
    ∷ []

abbrev pub cell_of : Stored → ℕ × ℕ
cell_of s = (s.table, s.key)

-- what is stored for a cell
abbrev pub find_stored : List Stored → ℕ × ℕ → Option ℕ
find_stored [] cell = None
find_stored (s ∷ more) cell =
    if eq_by_cmp cell_cmp cell (cell_of s) then Some s.value else find_stored more cell

pub record Fits (s : Stored) : Type 0 where
  pub table : s.table < MAX_TABLES
  pub key : s.key < 2 ^ 64
  pub value : s.value < 2 ^ 64
  pub nonzero : s.value ≢ 0

pub record ComesBefore (s later : Stored) : Type 0 where
  pub rises : s.id <ℤ later.id
  pub apart : cell_of s ≢ cell_of later

-- the rows are those of these cells, one for each
pub record HoldsCells (rows : List Row) (db : Database) : Type 0 where
  pub stored : List Stored
  pub rows_are : rows ≡ map cell_row stored
  pub fit : AllByRecursion Fits stored
  pub apart : IsAscending ComesBefore stored
  pub found : (cell : ℕ × ℕ) → finite.get db cell ≡ find_stored stored cell

-- what the query shows of a cell
abbrev pub shown_cell : Stored → Row
shown_cell s =
    Int (pos s.table) ∷ Blob (to_be_bytes w64 s.key) ∷ Blob (to_be_bytes w64 s.value) ∷ []

-- the rows show these cells, in some order
pub record ShowsCells (rows : List Row) (db : Database) : Type 0 where
  pub stored : List Stored
  pub same : IsPermutation (map shown_cell stored) rows
  pub fit : AllByRecursion Fits stored
  pub apart : IsAscending ComesBefore stored
  pub found : (cell : ℕ × ℕ) → finite.get db cell ≡ find_stored stored cell
