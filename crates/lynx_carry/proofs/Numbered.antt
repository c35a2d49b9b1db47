-- A cell with the number of its table has the table's name.
use Rattle.std.proofs.Common.{◌≡◌, ℕ, List, Some, ap}
use Rattle.lynx_names.specs.declared.limits.TheConstants.{MAX_TABLES}
use Rattle.lynx_set.specs.Names.{place_below}
use Rattle.lynx_set.specs.Set.{Set}
use Rattle.lynx_text.proofs.Lookups.{below_take}
use Rattle.lynx_carry.specs.Naming.{by_name}
use Rattle.lynx_carry.specs.declared.naming.NamedCell.{NamedCell}

-- the cell under another name
abbrev renamed : NamedCell → List ℕ → NamedCell
renamed cell name = record { table = name; key = cell.key; value = cell.value }

pub numbered_by_name : (set : Set) (cell : NamedCell) (table : ℕ) → place_below MAX_TABLES set.tables cell.table ≡ Some table →
    by_name set (table, cell.key, cell.value) ≡ cell
numbered_by_name set cell table is = ap (renamed cell) (below_take MAX_TABLES set.tables cell.table table is).0.there
