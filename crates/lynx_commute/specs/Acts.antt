-- A hop that a chain runs, what it answers and what it leaves.
use Rattle.std.specs.Prelude.{◌≡◌, ◌≢◌, ℕ, List, Result, Ok, Err, All}
use Rattle.lynx_cells.specs.Database.{Database, value_at}
use Rattle.lynx_set.specs.Set.{Set}
use Rattle.lynx_hops.specs.Meaning.{HopOutcome, meaning}
use Rattle.lynx_foot.specs.declared.touch.Touch.{Touch}
use Rattle.lynx_foot.specs.Feet.{touches_of}

-- a hop of a program, with the arguments of its chain and the results of the hops before it
pub record Act : Type 0 where
  pub program : ℕ
  pub hop : ℕ
  pub args : List ℕ
  pub earlier : List (List ℕ)

-- what the act comes to
abbrev pub outcome : Set → Act → Database → HopOutcome
outcome set act db = meaning set act.program act.hop act.args act.earlier db

-- the cells that the act touches, and how
abbrev pub touched : Set → Act → List Touch
touched set act = touches_of set act.program act.hop act.args

-- the results of an outcome, or the need that refused
abbrev pub answer_in : HopOutcome → Result (List ℕ) ℕ
answer_in (Ok ran) = Ok ran.0
answer_in (Err need) = Err need

-- the database of an outcome: a refusal leaves it as it was
abbrev pub database_in : Database → HopOutcome → Database
database_in db (Ok ran) = ran.1
database_in db (Err need) = db

-- what the act answers: its results, or the need that refuses
abbrev pub answer : Set → Act → Database → Result (List ℕ) ℕ
answer set act db = answer_in (outcome set act db)

-- the database after the act
abbrev pub after : Set → Act → Database → Database
after set act db = database_in db (outcome set act db)

-- Neither act changes what the other answers, and both orders leave the same database.
pub record ChangePlaces (set : Set) (first second : Act) (db : Database) : Type 0 where
  pub first_answers : answer set first (after set second db) ≡ answer set first db
  pub second_answers : answer set second (after set first db) ≡ answer set second db
  pub same_database : after set second (after set first db) ≡ after set first (after set second db)

-- two databases hold the same in each cell that is touched
abbrev pub AgreeOn : List Touch → Database → Database → Type 0
AgreeOn touches left right =
    All (λ touch. value_at left touch.table touch.key ≡ value_at right touch.table touch.key)
    touches

-- the cell of a touch: its table and its key
abbrev pub cell_of : Touch → ℕ × ℕ
cell_of touch = (touch.table, touch.key)

-- none of the touches is of the cell
abbrev pub IsUntouched : List Touch → ℕ × ℕ → Type 0
IsUntouched touches cell = All (λ touch. cell_of touch ≢ cell) touches
