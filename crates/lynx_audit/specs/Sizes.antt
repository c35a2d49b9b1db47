-- How much servers keep, by lines.
use Rattle.std.specs.Prelude.{Bool, ◌==◌, ℕ, ◌+◌, List, [], ◌∷◌, ◌++◌, length, codes, decimal, count_by, slice_get}
use Rattle.std.specs.List.{flat_map, range_with_len}
use Rattle.std.specs.Option.{option_map_or}
use Rattle.lynx_lex.specs.Lines.{with_feed}
use Rattle.lynx_set.specs.Set.{Set}
use Rattle.lynx_entry.specs.Entry.{History}

-- the line of a server, and of the count of its entries
abbrev pub entries_line : ℕ × ℕ → List ℕ
entries_line sized =
    with_feed (codes "entries " ++ decimal sized.0 ++ 32 ∷ decimal sized.1)

-- a line for each server from that number on, with how many entries its history has
abbrev pub entries_from : ℕ → List History → List ℕ
entries_from server [] = []
entries_from server (history ∷ histories) =
    entries_line (server, length history) ++ entries_from (server + 1) histories

-- the same from server 0 on
abbrev pub entries_lines : List History → List ℕ
entries_lines histories = entries_from 0 histories

-- the cell is of the table
abbrev pub is_of : ℕ → ℕ × ℕ × ℕ → Bool
is_of table cell = cell.0 == table

-- the line of a table's name, and of the count of its cells that aren't 0
abbrev pub cells_line : List ℕ → ℕ → List ℕ
cells_line name count = with_feed (codes "cells " ++ name ++ 32 ∷ decimal count)

-- the line of the table of that number, where there is one
abbrev pub table_text : Set → List (ℕ × ℕ × ℕ) → ℕ → List ℕ
table_text set cells table =
    option_map_or (λ name. cells_line name (count_by (is_of table) cells))
    (slice_get set.tables table) []

-- a line for each table of the set
abbrev pub cells_lines : Set → List (ℕ × ℕ × ℕ) → List ℕ
cells_lines set cells = flat_map (table_text set cells) (range_with_len 0 (length set.tables))
