-- Where the triple of a cell is among triples that rise by cell, or where it would go.
use Rattle.std.specs.Prelude.{◌≡◌, ℕ, ◌<◌, ◌≤◌, List, length, slice_index_or}
use Rattle.std.proofs.Common.{Less, Greater}
use Rattle.lynx_cells.specs.Database.{cell_cmp}

-- the cell of the triple at a place
abbrev pub cell_at : List (ℕ × ℕ × ℕ) → ℕ → ℕ × ℕ
cell_at triples place = let triple = slice_index_or triples place (0, 0, 0) in (triple.0, triple.1)

-- the triple at the place has the cell
pub record IsPlaceOf (triples : List (ℕ × ℕ × ℕ)) (cell : ℕ × ℕ) (place : ℕ) : Type 0 where
  pub in_range : place < length triples
  pub has_cell : cell_at triples place ≡ cell

-- lesser cells before the place, and greater ones from it on
pub record IsGapFor (triples : List (ℕ × ℕ × ℕ)) (cell : ℕ × ℕ) (place : ℕ) : Type 0 where
  pub in_range : place ≤ length triples
  pub less_before : (k : ℕ) → k < place → cell_cmp (cell_at triples k) cell ≡ Less
  pub greater_from : (k : ℕ) → place ≤ k → k < length triples
      → cell_cmp (cell_at triples k) cell ≡ Greater
