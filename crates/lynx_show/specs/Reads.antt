-- What cells hold, of stores that were read, in lines.
use Rattle.std.specs.Prelude.{Bool, ◌&&◌, ◌==◌, ℕ, nat_le, List, [], ◌∷◌, Option, None, Some, if◌then◌else◌}
use Rattle.std.specs.List.{flat_map}
use Rattle.std.specs.FinMap as finite
use Rattle.lynx_cells.specs.Triples.{triples_of}
use Rattle.lynx_set.specs.Set.{Set}
use Rattle.lynx_store.specs.declared.inspecting.Inspected.{Inspected}
use Rattle.lynx_show.specs.declared.reading.KeyRange.{KeyRange}
use Rattle.lynx_show.specs.Listing.{cell_line}

-- a cell of the table, with a key of the range
abbrev pub is_within : ℕ → KeyRange → ℕ × ℕ × ℕ → Bool
is_within table range cell =
    (cell.0 == table) && nat_le range.first cell.1 && nat_le cell.1 range.last

-- its line; none of another cell
abbrev pub line_within : Set → ℕ → KeyRange → ℕ × ℕ × ℕ → List ℕ
line_within chains table range cell =
    if is_within table range cell then cell_line chains cell else []

-- the lines of the cells of a store, by key
abbrev pub store_lines : Set → ℕ → KeyRange → Inspected → List ℕ
store_lines chains table range held =
    flat_map (line_within chains table range)
    (triples_of (finite.entries held.loaded.cells.database))

-- the same of all stores
abbrev pub range_lines : Set → List Inspected → ℕ → KeyRange → List ℕ
range_lines chains stores table range = flat_map (store_lines chains table range) stores

-- a cell that no store has is 0
abbrev pub or_zero : Set → ℕ → ℕ → List ℕ → List ℕ
or_zero chains table key [] = cell_line chains (table, key, 0)
or_zero chains table key (byte ∷ lines) = byte ∷ lines

-- the line of one cell
abbrev pub key_lines : Set → List Inspected → ℕ → ℕ → List ℕ
key_lines chains stores table key =
    or_zero chains table key
    (range_lines chains stores table (record { first = key; last = key }))
