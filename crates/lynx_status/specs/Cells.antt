-- Cells that were looked up, in JSON.
use Rattle.std.specs.Prelude.{ℕ, ◌==◌, List, [], ◌∷◌, ◌++◌, Option, None, Some, codes, decimal, if◌then◌else◌}
use Rattle.std.specs.List.{flat_map}
use Rattle.lynx_status.specs.declared.cells.CellsFigures.{CellsFigures}

-- the name of a table
unfoldable pub table_head : List ℕ → List ℕ
table_head table = codes "{\"table\":\"" ++ table ++ codes "\""

-- a server, and the stamp of its last entry
unfoldable pub place_json : ℕ → ℕ → List ℕ
place_json server stamp =
    codes ",\"server\":\"" ++ decimal server ++ codes "\",\"stamp\":\"" ++ decimal stamp ++ codes "\""

-- a key, and the value of its cell
unfoldable pub pair_json : ℕ → ℕ → List ℕ
pair_json key value =
    codes "\"key\":\"" ++ decimal key ++ codes "\",\"value\":\"" ++ decimal value ++ codes "\""

-- what the cell of a key holds: 0 where it isn't listed
abbrev pub value_of : ℕ → List (ℕ × ℕ) → ℕ
value_of key [] = 0
value_of key (cell ∷ cells) = if cell.0 == key then cell.1 else value_of key cells

-- one cell
abbrev pub cell_json : List ℕ → ℕ → CellsFigures → List ℕ
cell_json table key found =
    table_head table ++ codes "," ++ pair_json key (value_of key found.cells.items)
    ++ place_json found.server found.stamp ++ codes "}\n"

abbrev pub listed_json : ℕ × ℕ → List ℕ
listed_json cell = codes "{" ++ pair_json cell.0 cell.1 ++ codes "}"

-- cells with a comma between two
abbrev pub list_json : List (ℕ × ℕ) → List ℕ
list_json [] = []
list_json (first ∷ rest) = listed_json first ++ flat_map (λ cell. codes "," ++ listed_json cell) rest

-- from which key one goes on
unfoldable pub next_json : Option ℕ → List ℕ
next_json None = []
next_json (Some key) = codes ",\"next\":\"" ++ decimal key ++ codes "\""

-- cells of a table
abbrev pub cells_json : List ℕ → CellsFigures → List ℕ
cells_json table found =
    table_head table ++ place_json found.server found.stamp ++ codes ",\"cells\":["
    ++ list_json found.cells.items ++ codes "]" ++ next_json found.next ++ codes "}\n"
