-- What a hop does: its actions in order, each to the database that the one before left.
use Rattle.std.specs.Prelude.{ℕ, ◌+◌, ◌-◌, ◌%◌, ◌^◌, ◌==◌, Bool, not, if◌then◌else◌, nat_lt, nat_le, List, [], ◌∷◌, ◌++◌, max, slice_get, slice_index, unwrap_or, option_and_then, option_map, Option, Result, Ok, Err}
use Rattle.std.specs.List.{flat_map}
use Rattle.lynx_cells.specs.Database.{Database, value_at, with_value}
use Rattle.lynx_set.specs.declared.action.Action.{Action}
use Rattle.lynx_set.specs.declared.action.Action.TheVariants.{Get, Update, Let, Need}
use Rattle.lynx_set.specs.declared.action.Update.{Update as TheUpdate}
use Rattle.lynx_set.specs.declared.action.Update.TheVariants.{Set as SetTo, Add, Sub, Max}
use Rattle.lynx_set.specs.declared.action.Key.{Key}
use Rattle.lynx_set.specs.declared.action.Key.TheVariants.{Literal, Param}
use Rattle.lynx_set.specs.declared.action.Operand.{Operand}
use Rattle.lynx_set.specs.declared.action.Operand.TheVariants.{Number, Name}
use Rattle.lynx_set.specs.declared.action.Operator.{Operator}
use Rattle.lynx_set.specs.declared.action.Operator.TheVariants.{Plus, Minus}
use Rattle.lynx_set.specs.declared.action.Relation.{Relation}
use Rattle.lynx_set.specs.declared.action.Relation.TheVariants.{Below, AtMost, Same, Differs, AtLeast, Above}
use Rattle.lynx_set.specs.declared.program.Hop.{Hop}
use Rattle.lynx_set.specs.declared.program.Program.{Program}
use Rattle.lynx_set.specs.Set.{Set}
use Rattle.lynx_set.specs.Lookups.{actions_at}

-- the key that is meant, where the parameters have these arguments
abbrev pub key_of : List ℕ → Key → ℕ
key_of args (Literal key) = key
key_of args (Param place) = slice_index args place

-- the value that is meant, where the program's names have these values so far
abbrev pub value_of : List ℕ → Operand → ℕ
value_of names (Number value) = value
value_of names (Name place) = slice_index names place

abbrev pub sum_of : ℕ → ℕ → ℕ
sum_of left right = (left + right) % 2 ^ 64

abbrev pub difference_of : ℕ → ℕ → ℕ
difference_of left right = (left + (2 ^ 64 - right)) % 2 ^ 64

-- what `let` gives
abbrev pub result_of : Operator → ℕ → ℕ → ℕ
result_of Plus left right = sum_of left right
result_of Minus left right = difference_of left right

-- what a cell holds after an update
abbrev pub updated : TheUpdate → ℕ → ℕ → ℕ
updated SetTo held value = value
updated Add held value = sum_of held value
updated Sub held value = difference_of held value
updated Max held value = max held value

-- what `need` asks
abbrev pub is_met : Relation → ℕ → ℕ → Bool
is_met Below left right = nat_lt left right
is_met AtMost left right = nat_le left right
is_met Same left right = left == right
is_met Differs left right = not (left == right)
is_met AtLeast left right = nat_le right left
is_met Above left right = nat_lt right left

-- What came of a hop: the results and the database after it, or the number of the first need that
-- isn't met.
abbrev pub HopOutcome : Type 0
HopOutcome = Result (List ℕ × Database) ℕ

-- the outcome with these results before its own
abbrev pub after_results : List ℕ → HopOutcome → HopOutcome
after_results results (Ok outcome) = Ok (results ++ outcome.0, outcome.1)
after_results results (Err need) = Err need

-- The actions in order. A bound value is the next name and the next result. Needs are counted.
abbrev pub run : List ℕ → ℕ → List Action → List ℕ → Database → HopOutcome
run args needs [] names db = Ok ([], db)
run args needs (Get table key ∷ actions) names db =
    let value = value_at db table (key_of args key) in
    after_results (value ∷ []) (run args needs actions (names ++ value ∷ []) db)
run args needs (Update update table key value ∷ actions) names db =
    run args needs actions names
    (with_value db table (key_of args key)
    (updated update (value_at db table (key_of args key)) (value_of names value)))
run args needs (Let left operator right ∷ actions) names db =
    let value = result_of operator (value_of names left) (value_of names right) in
    after_results (value ∷ []) (run args needs actions (names ++ value ∷ []) db)
run args needs (Need left relation right ∷ actions) names db =
    if is_met relation (value_of names left) (value_of names right)
    then run args (needs + 1) actions names db
    else Err needs

-- The meaning of a hop of a program, with the arguments of its chain and the results of the hops
-- before it.
abbrev pub meaning : Set → ℕ → ℕ → List ℕ → List (List ℕ) → Database → HopOutcome
meaning set program hop args earlier db =
    run args 0 (actions_at set program hop) (args ++ flat_map (λ results. results) earlier) db
