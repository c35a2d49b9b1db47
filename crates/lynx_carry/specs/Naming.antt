-- Cells by the names of their tables.
use Rattle.std.specs.Prelude.{ℕ, Option, option_map, slice_get}
use Rattle.lynx_set.specs.Lookups.{table_name}
use Rattle.lynx_set.specs.Set.{Set}
use Rattle.lynx_carry.specs.declared.naming.NamedCell.{NamedCell}

-- a cell under the name of its table, which is no bytes where the set hasn't the table
abbrev pub by_name : Set → ℕ × ℕ × ℕ → NamedCell
by_name set cell = record { table = table_name set cell.0; key = cell.1; value = cell.2 }

-- the same, if the set has the table
abbrev pub named_cell : Set → ℕ × ℕ × ℕ → Option NamedCell
named_cell set cell =
    option_map (λ name. record { table = name; key = cell.1; value = cell.2 })
    (slice_get set.tables cell.0)
