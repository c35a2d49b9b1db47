-- When cells can't be carried.
use Rattle.std.specs.Prelude.{◌≡◌, ◌<◌, ℕ, false, List, slice_get, Some, None}
use Rattle.lynx_names.specs.declared.limits.TheConstants.{MAX_ENTRIES, MAX_TABLES}
use Rattle.lynx_entry.specs.declared.request.Request.{Request}
use Rattle.lynx_set.specs.Names.{place_below}
use Rattle.lynx_set.specs.Set.{Set}
use Rattle.lynx_shards.specs.Shards.{server_of}
use Rattle.lynx_carry.specs.Counts.{entries_at}
use Rattle.lynx_carry.specs.Writers.{set_writes}
use Rattle.lynx_carry.specs.declared.fault.CarryFault.{CarryFault}
use Rattle.lynx_carry.specs.declared.fault.CarryFault.TheVariants.{NoTable, NoWriter, TooMany, Differs, Memory}
use Rattle.lynx_carry.specs.declared.naming.NamedCell.{NamedCell}

-- one of the cells is of that table, which the set hasn't
pub record IsOfNoTable (set : Set) (cells : List NamedCell) (table : List ℕ) : Type 0 where
  pub place : ℕ
  pub cell : NamedCell
  pub there : slice_get cells place ≡ Some cell
  pub table_is : cell.table ≡ table
  pub unknown : place_below MAX_TABLES set.tables table ≡ None

-- one of the cells is of that table and kept at that server, and no program of the set writes it
pub record HasNoWriter (set : Set) (cells : List NamedCell) (table : List ℕ) (server : ℕ) : Type
    0 where
  pub place : ℕ
  pub cell : NamedCell
  pub there : slice_get cells place ≡ Some cell
  pub table_is : cell.table ≡ table
  pub number : ℕ
  pub numbered : place_below MAX_TABLES set.tables table ≡ Some number
  pub kept : server_of set.shards number cell.key ≡ server
  pub unwritten : set_writes set server number cell.key cell.value ≡ false

-- some chains give that server of the set so many entries, more than it can take
pub record AreTooMany (set : Set) (server entries : ℕ) : Type 0 where
  pub requests : List Request
  pub of_set : server < set.servers
  pub count : entries_at set requests server ≡ entries
  pub many : MAX_ENTRIES < entries

-- why no chains were planned
abbrev pub IsPlanFault : Set → List NamedCell → CarryFault → Type 0
IsPlanFault set cells (NoTable table) = IsOfNoTable set cells table
IsPlanFault set cells (NoWriter table server) = HasNoWriter set cells table server
IsPlanFault set cells (TooMany server entries) = AreTooMany set server entries
IsPlanFault set cells Differs = Unit {0}
IsPlanFault set cells Memory = Unit {0}

-- why chains didn't carry the cells
abbrev pub IsCarryFault : Set → List NamedCell → CarryFault → Type 0
IsCarryFault set cells (NoTable table) = IsOfNoTable set cells table
IsCarryFault set cells (NoWriter table server) = ⊥
IsCarryFault set cells (TooMany server entries) = ⊥
IsCarryFault set cells Differs = Unit {0}
IsCarryFault set cells Memory = Unit {0}
