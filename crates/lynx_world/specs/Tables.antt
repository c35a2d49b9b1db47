-- The cells of a world.
use Rattle.std.specs.Prelude.{ℕ, List}
use Rattle.std.specs.List.{flat_map, range_with_len}
use Rattle.std.specs.declared.cmp.Ordering.{Ordering}
use Rattle.std.specs.Ordering.{nat_cmp, ordering_then}
use Rattle.std.specs.FinMap.{entries}
use Rattle.lynx_cells.specs.Triples.{triples_of}
use Rattle.lynx_set.specs.Set.{Set}
use Rattle.lynx_entry.specs.Entry.{History}
use Rattle.lynx_rules.specs.Tables.{tables_of}
use Rattle.lynx_world.specs.Worlds.{WorldState, history_of}

-- the nonzero cells that a history leaves, each a table, a key and a value
abbrev pub cells_after : Set → History → List (ℕ × ℕ × ℕ)
cells_after set history = triples_of (entries (tables_of set history))

-- the nonzero cells of each server's tables
abbrev pub cells_of : WorldState → List (ℕ × ℕ × ℕ)
cells_of world =
    flat_map (λ server. cells_after world.set (history_of server world.list))
    (range_with_len 0 world.set.servers)

-- by table, then key
abbrev pub triple_cmp : ℕ × ℕ × ℕ → ℕ × ℕ × ℕ → Ordering
triple_cmp a b = ordering_then (nat_cmp a.0 b.0) (ordering_then (nat_cmp a.1 b.1) (nat_cmp a.2 b.2))
