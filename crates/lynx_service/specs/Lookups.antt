-- What is told to one who looks up what a service did.
use Rattle.std.specs.Prelude.{◌≡◌, ℕ, List, None, Some}
use Rattle.lynx_cluster.specs.Readings.{IsRead}
use Rattle.lynx_names.specs.declared.limits.TheConstants.{MAX_TABLES}
use Rattle.lynx_set.specs.Names.{place_below}
use Rattle.lynx_set.specs.Set.{Set}
use Rattle.lynx_shards.specs.Shards.{server_of}
use Rattle.lynx_status.specs.declared.cells.CellsFigures.{CellsFigures}
use Rattle.lynx_status.specs.declared.cells.CellsFound.{CellsFound}
use Rattle.lynx_status.specs.declared.cells.CellsFound.TheVariants.{NoTable, Stopped, Found}
use Rattle.lynx_status.specs.declared.wanted.CellRange.{CellRange}

-- These cells were read at the server that has the first key of the range, up to some key.
pub record TellsCells (set : Set) (name : List ℕ) (range : CellRange) (told : CellsFigures) :
    Type 0 where
  pub table : ℕ
  pub named : place_below MAX_TABLES set.tables name ≡ Some table
  pub server_is : told.server ≡ server_of set.shards table range.from
  pub last : ℕ
  pub read : IsRead set told.server table range.from last range.limit
      (record { stamp = told.stamp; cells = told.cells })

-- what is told of the cells of the table of that name
abbrev pub FindsCells : Set → List ℕ → CellRange → CellsFound → Type 0
FindsCells set name range NoTable = place_below MAX_TABLES set.tables name ≡ None
FindsCells set name range Stopped = Unit {0}
FindsCells set name range (Found told) = TellsCells set name range told
