-- The cells of a table between two keys.
use Rattle.std.specs.Prelude.{ℕ, List, map}
use Rattle.std.specs.declared.ops.Bound.TheVariants.{Included}
use Rattle.std.specs.BTreeMap.Range.{entries_between}
use Rattle.std.specs.FinMap as maps
use Rattle.lynx_cells.specs.Database.{cell_cmp, Database}

-- a key and its value
abbrev pub key_and_value : (ℕ × ℕ) × ℕ → ℕ × ℕ
key_and_value entry = (entry.0.1, entry.1)

-- the cells of a table that are not 0, from one key to another, both among them, by key
abbrev pub cells_between : ℕ → ℕ → ℕ → Database → List (ℕ × ℕ)
cells_between table first last db =
    map key_and_value
    (entries_between cell_cmp (Included (table, first)) (Included (table, last)) (maps.entries db))
