-- Serial runs: programs one after another, each without a break, over one database.
use Rattle.std.specs.Prelude.{ℕ, zero, suc, List, [], ◌∷◌, ◌++◌, length, Option, Some, None, Ok, Err, option_map, option_and_then}
use Rattle.lynx_cells.specs.Database.{Database}
use Rattle.lynx_set.specs.Set.{Set}
use Rattle.lynx_hops.specs.Meaning.{HopOutcome, meaning}

-- a program with its arguments, and how many of its hops run
pub record Call : Type 0 where
  pub program : ℕ
  pub args : List ℕ
  pub count : ℕ

-- the results of a program's hops, and the database after them
pub record CallRun : Type 0 where
  pub results : List (List ℕ)
  pub database : Database

-- the results of the hops of each program in turn, and the last database
pub record SerialRun : Type 0 where
  pub results : List (List (List ℕ))
  pub database : Database

-- the results of a hop and the database after it, none where it refuses
abbrev pub ran_in : HopOutcome → Option (List ℕ × Database)
ran_in (Ok ran) = Some ran
ran_in (Err need) = None

-- so many more hops of a program, behind those that gave these results; each is given all results
-- before its own
abbrev pub run_hops : Set → ℕ → List ℕ → ℕ → List (List ℕ) → Database → Option CallRun
run_hops set program args zero earlier db = Some (record { results = earlier; database = db })
run_hops set program args (suc count) earlier db =
    option_and_then (λ ran. run_hops set program args count (earlier ++ ran.0 ∷ []) ran.1)
    (ran_in (meaning set program (length earlier) args earlier db))

-- The serial run from this database: each program in turn runs its hops from 0 on. None where a hop
-- refuses.
abbrev pub serial_run : Set → List Call → Database → Option SerialRun
serial_run set [] db = Some (record { results = []; database = db })
serial_run set (call ∷ calls) db =
    option_and_then
    (λ ran. option_map
    (λ rest. record { results = ran.results ∷ rest.results; database = rest.database })
    (serial_run set calls ran.database))
    (run_hops set call.program call.args call.count [] db)
