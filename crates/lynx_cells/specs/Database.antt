-- A database, and what writing a cell makes of it. A cell is a pair of a table and a key.
use Rattle.std.specs.Prelude.{ℕ, List, [], ◌∷◌, ◌==◌, ◌≢◌, if◌then◌else◌, unwrap_or, All}
use Rattle.std.specs.declared.cmp.Ordering.{Ordering}
use Rattle.std.specs.Ordering.{nat_cmp, ordering_then}
use Rattle.std.specs.FinMap as map

-- cells rise by table, then key
abbrev pub cell_cmp : ℕ × ℕ → ℕ × ℕ → Ordering
cell_cmp a b = ordering_then (nat_cmp a.0 b.0) (nat_cmp a.1 b.1)

-- A finite map from cells to numbers. A cell that is not in it is 0.
abbrev pub Database : Type 0
Database = map.FinMap cell_cmp ℕ

-- a database in which no cell is kept at 0
abbrev pub IsZeroFree : Database → Type 0
IsZeroFree db = All (λ value. value ≢ 0) (map.values db)

-- every cell is 0
abbrev pub empty_database : Database
empty_database = map.empty

-- what a cell holds
abbrev pub value_at : Database → ℕ → ℕ → ℕ
value_at db table key = unwrap_or (map.get db (table, key)) 0

-- the database after a write: a cell that becomes 0 is not kept
abbrev pub with_value : Database → ℕ → ℕ → ℕ → Database
with_value db table key value =
    if value == 0 then map.remove db (table, key) else map.insert db (table, key) value

-- the new values of some cells, which may be 0
abbrev pub ChangeSet : Type 0
ChangeSet = map.FinMap cell_cmp ℕ

-- the database after these writes, one after another
abbrev pub written : List ((ℕ × ℕ) × ℕ) → Database → Database
written [] db = db
written (change ∷ changes) db = written changes (with_value db change.0.0 change.0.1 change.1)

-- the database after a set of changes
abbrev pub applied : ChangeSet → Database → Database
applied changes db = written (map.entries changes) db
