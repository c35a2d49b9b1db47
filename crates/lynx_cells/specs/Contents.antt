-- What contracts see of the cells of one server.
use Rattle.std.specs.Prelude.{ℕ, List, IsTrue, All, refl}
use Rattle.std.specs.Coded.{Coded, code_by, coded×, coded_ℕ}
use Rattle.std.specs.FinMap as map
use Rattle.std.specs.FinSet as set
use Rattle.std.specs.Map.{keys_of}
use Rattle.lynx_cells.specs.Database.{cell_cmp, Database, ChangeSet, applied, empty_database}

-- the database, and the cells that have a slot
pub record Contents : Type 0 where
  pub database : Database
  pub staged : set.FinSet cell_cmp

-- contents are stored as the pair of their fields
abbrev pub contents_code : Coded Contents
contents_code =
    code_by (Database × set.FinSet cell_cmp)
    (coded× (map.code (coded× coded_ℕ coded_ℕ) coded_ℕ) (set.code (coded× coded_ℕ coded_ℕ)))
    (λ contents. (contents.database, contents.staged))
    (λ pair. record { database = pair.0; staged = pair.1 }) (λ _. refl)

-- what slots hold: a slot that holds 0 is not seen in the database
abbrev pub contents_of : List ((ℕ × ℕ) × ℕ) → Contents
contents_of slots =
    record {
      database = applied (map.from_entries slots) empty_database;
      staged = set.from_list (keys_of slots);
    }

-- the changed cells
abbrev pub changed : ChangeSet → set.FinSet cell_cmp
changed changes = set.from_list (map.keys changes)

-- each changed cell has a slot
abbrev pub IsStaged : Contents → ChangeSet → Type 0
IsStaged contents changes =
    All (λ cell. IsTrue (set.contains contents.staged cell)) (map.keys changes)

-- each cell that had a slot has one
abbrev pub KeepsStaged : Contents → Contents → Type 0
KeepsStaged old new =
    (cell : ℕ × ℕ) → IsTrue (set.contains old.staged cell) → IsTrue (set.contains new.staged cell)
