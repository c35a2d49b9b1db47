-- Entries of a map from cells, as triples of a table, a key and a value.
use Rattle.std.specs.Prelude.{ℕ, List, map, T}
use Rattle.std.specs.FinMap.{is_sorted}
use Rattle.lynx_cells.specs.Database.{cell_cmp}

-- the entry that a triple stands for
abbrev pub entry_of : ℕ × ℕ × ℕ → (ℕ × ℕ) × ℕ
entry_of triple = ((triple.0, triple.1), triple.2)

-- the triple of an entry
abbrev pub triple_of : (ℕ × ℕ) × ℕ → ℕ × ℕ × ℕ
triple_of entry = (entry.0.0, entry.0.1, entry.1)

-- the entries that triples stand for
abbrev pub entries_of : List (ℕ × ℕ × ℕ) → List ((ℕ × ℕ) × ℕ)
entries_of triples = map entry_of triples

-- the triples of entries
abbrev pub triples_of : List ((ℕ × ℕ) × ℕ) → List (ℕ × ℕ × ℕ)
triples_of entries = map triple_of entries

-- each triple's cell is below those after it
abbrev pub RisesByCell : List (ℕ × ℕ × ℕ) → Type 0
RisesByCell triples = T (is_sorted cell_cmp (entries_of triples))
