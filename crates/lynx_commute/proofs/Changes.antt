-- A change of the database that neither alters what actions do nor is altered by them.
use Rattle.std.specs.Prelude.{◌≡◌, ℕ, ◌+◌, ◌++◌, List, [], ◌∷◌, Ok, Err, refl, if◌then◌else◌, true, false}
use Rattle.std.proofs.Common.{ap, ◌∙◌}
use Rattle.lynx_cells.specs.Database.{Database, value_at, with_value}
use Rattle.lynx_set.specs.declared.action.Action.{Action}
use Rattle.lynx_set.specs.declared.action.Action.TheVariants.{Get, Update, Let, Need}
use Rattle.lynx_set.specs.declared.action.Update.{Update as TheUpdate}
use Rattle.lynx_hops.specs.Meaning.{HopOutcome, after_results, key_of, value_of, updated, result_of, is_met, run}
use Rattle.lynx_commute.specs.Acts.{answer_in, database_in}

-- the database after an update of a cell
abbrev pub with_update : Database → TheUpdate → ℕ → ℕ → ℕ → Database
with_update db update table key value = with_value db table key (updated update (value_at db table key) value)

-- the action reads and writes the same before the change as after it
abbrev pub Passes : List ℕ → (Database → Database) → Action → Type 0
Passes args change (Get table key) = (db : Database) → value_at (change db) table (key_of args key) ≡ value_at db table (key_of args key)
Passes args change (Update update table key value) = (db : Database) (by : ℕ) → with_update (change db) update table (key_of args key) by ≡ change (with_update db update table (key_of args key) by)
Passes args change (Let left operator right) = Unit {0}
Passes args change (Need left relation right) = Unit {0}

-- each of the actions does
abbrev pub AllPass : List ℕ → (Database → Database) → List Action → Type 0
AllPass args change [] = Unit {0}
AllPass args change (action ∷ actions) = Passes args change action × AllPass args change actions

-- the outcome with the change made to its database
abbrev pub changed : (Database → Database) → HopOutcome → HopOutcome
changed change (Ok ran) = Ok (ran.0, change ran.1)
changed change (Err need) = Err need

after_results-changed : (change : Database → Database) (results : List ℕ) (outcome : HopOutcome) → after_results results (changed change outcome) ≡ changed change (after_results results outcome)
after_results-changed change results (Ok ran) = refl
after_results-changed change results (Err need) = refl

-- a change that all actions pass may as well be made after them
pub run-change : (args : List ℕ) (change : Database → Database) (needs : ℕ) (actions : List Action) (names : List ℕ) (db : Database) → AllPass args change actions →
    run args needs actions names (change db) ≡ changed change (run args needs actions names db)
run-change args change needs [] names db pass = refl
run-change args change needs (Get table key ∷ actions) names db pass =
    ap (λ value. after_results (value ∷ []) (run args needs actions (names ++ value ∷ []) (change db))) (pass.0 db)
    ∙ ap (after_results (value_at db table (key_of args key) ∷ [])) (run-change args change needs actions (names ++ value_at db table (key_of args key) ∷ []) db pass.1)
    ∙ after_results-changed change (value_at db table (key_of args key) ∷ []) _
run-change args change needs (Update update table key value ∷ actions) names db pass =
    ap (run args needs actions names) (pass.0 db (value_of names value))
    ∙ run-change args change needs actions names (with_update db update table (key_of args key) (value_of names value)) pass.1
run-change args change needs (Let left operator right ∷ actions) names db pass =
    let value = result_of operator (value_of names left) (value_of names right) in
    ap (after_results (value ∷ [])) (run-change args change needs actions (names ++ value ∷ []) db pass.1)
    ∙ after_results-changed change (value ∷ []) _
run-change args change needs (Need left relation right ∷ actions) names db pass =
    elim (is_met relation (value_of names left) (value_of names right)) as
    (λ met. (if met then run args (needs + 1) actions names (change db) else Err needs) ≡ changed change (if met then run args (needs + 1) actions names db else Err needs)) [
      | true ↦ run-change args change (needs + 1) actions names db pass.1
      | false ↦ refl
    ]

-- what an outcome answers is the same with the change
pub answer_in-changed : (change : Database → Database) (outcome : HopOutcome) → answer_in (changed change outcome) ≡ answer_in outcome
answer_in-changed change (Ok ran) = refl
answer_in-changed change (Err need) = refl

-- and its database is the changed one
pub database_in-changed : (change : Database → Database) (db : Database) (outcome : HopOutcome) → database_in (change db) (changed change outcome) ≡ change (database_in db outcome)
database_in-changed change db (Ok ran) = refl
database_in-changed change db (Err need) = refl
