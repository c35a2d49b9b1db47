-- Cells that were looked up, in lines.
use Rattle.std.specs.Prelude.{ℕ, List, [], ◌∷◌, ◌++◌, Option, None, Some, codes, decimal}
use Rattle.std.specs.List.{flat_map}
use Rattle.lynx_lex.specs.Lines.{with_feed}
use Rattle.lynx_status.specs.declared.cells.CellsFigures.{CellsFigures}
use Rattle.lynx_status.specs.declared.shapes.Shape.{Shape}
use Rattle.lynx_status.specs.declared.shapes.Shape.TheVariants.{Json, Lines}
use Rattle.lynx_status.specs.Cells.{cell_json, cells_json, value_of}

-- the line of a cell
abbrev pub cell_line : List ℕ → ℕ → ℕ → List ℕ
cell_line table key value =
    with_feed (codes "cell " ++ table ++ 32 ∷ decimal key ++ 32 ∷ decimal value)

-- from which key one goes on
abbrev pub next_text : Option ℕ → List ℕ
next_text None = []
next_text (Some key) = codes " next " ++ decimal key

-- the last line: a server, the stamp of its last entry, and from which key one goes on
abbrev pub place_line : ℕ → ℕ → Option ℕ → List ℕ
place_line server stamp next =
    with_feed (codes "server " ++ decimal server ++ codes " stamp " ++ decimal stamp
    ++ next_text next)

-- one cell
abbrev pub cell_lines : List ℕ → ℕ → CellsFigures → List ℕ
cell_lines table key found =
    cell_line table key (value_of key found.cells.items)
    ++ place_line found.server found.stamp None

-- cells of a table
abbrev pub cells_lines : List ℕ → CellsFigures → List ℕ
cells_lines table found =
    flat_map (λ cell. cell_line table cell.0 cell.1) found.cells.items
    ++ place_line found.server found.stamp found.next

-- the same in either shape
abbrev pub cell_body : Shape → List ℕ → ℕ → CellsFigures → List ℕ
cell_body Json table key found = cell_json table key found
cell_body Lines table key found = cell_lines table key found

abbrev pub cells_body : Shape → List ℕ → CellsFigures → List ℕ
cells_body Json table found = cells_json table found
cells_body Lines table found = cells_lines table found
