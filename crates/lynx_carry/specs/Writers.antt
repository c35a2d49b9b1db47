-- Which programs write cells that they are given as arguments, and nothing else.
use Rattle.std.specs.Prelude.{ℕ, ◌==◌, ◌&&◌, ◌||◌, Bool, true, false, not, nat_le, nat_lt, List, Option, Some, None, count_by}
use Rattle.std.specs.List.{list_all, list_any}
use Rattle.std.specs.Option.{option_map_or}
use Rattle.lynx_set.specs.Intervals.{holds, range_of}
use Rattle.lynx_set.specs.Set.{Set}
use Rattle.lynx_set.specs.declared.action.Action.{Action}
use Rattle.lynx_set.specs.declared.action.Action.TheVariants.{Get, Update, Let, Need}
use Rattle.lynx_set.specs.declared.action.Key.{Key}
use Rattle.lynx_set.specs.declared.action.Key.TheVariants.{Literal, Param}
use Rattle.lynx_set.specs.declared.action.Operand.{Operand}
use Rattle.lynx_set.specs.declared.action.Operand.TheVariants.{Number, Name}
use Rattle.lynx_set.specs.declared.action.Update.{Update as TheUpdate}
use Rattle.lynx_set.specs.declared.action.Update.TheVariants.{Set as SetTo, Add, Sub, Max}
use Rattle.lynx_set.specs.declared.program.Hop.{Hop}
use Rattle.lynx_set.specs.declared.program.ParameterRange.{ParameterRange}
use Rattle.lynx_set.specs.declared.program.Program.{Program}

-- the key is that parameter
abbrev pub is_key_of : ℕ → Key → Bool
is_key_of parameter (Literal key) = false
is_key_of parameter (Param place) = place == parameter

-- the value is that parameter
abbrev pub is_value_of : ℕ → Operand → Bool
is_value_of parameter (Number number) = false
is_value_of parameter (Name place) = place == parameter

-- the action names the parameter
abbrev pub names : ℕ → Action → Bool
names parameter (Get table key) = is_key_of parameter key
names parameter (Update update table key value) =
    is_key_of parameter key || is_value_of parameter value
names parameter (Let left operator right) =
    is_value_of parameter left || is_value_of parameter right
names parameter (Need left relation right) =
    is_value_of parameter left || is_value_of parameter right

-- one hop alone names the parameter, and one of its actions alone
abbrev pub is_used_once : List Hop → ℕ → Bool
is_used_once hops parameter =
    (count_by (λ hop. list_any (names parameter) hop.actions) hops == 1)
    && list_all (λ hop. nat_le (count_by (names parameter) hop.actions) 1) hops

-- a parameter that one action alone names
abbrev pub is_own : Program → ℕ → Bool
is_own program parameter =
    nat_lt parameter program.parameters && is_used_once program.hops parameter

-- the parameters that are a key and a value, if both are names
abbrev pub named_pair : Key → Operand → Option (ℕ × ℕ)
named_pair (Literal key) value = None
named_pair (Param key) (Number number) = None
named_pair (Param key) (Name value) = Some (key, value)

-- two parameters of the program, and each is the action's own
abbrev pub is_own_pair : Program → ℕ × ℕ → Bool
is_own_pair program pair =
    not (pair.0 == pair.1) && is_own program pair.0 && is_own program pair.1

-- an update that leaves the value in a cell that is 0
abbrev pub is_write : TheUpdate → Bool
is_write SetTo = true
is_write Add = true
is_write Sub = false
is_write Max = false

-- an action that writes a cell that it is given: `set` or `add`, its key a parameter and its value
-- another, which nothing else names
abbrev pub is_slot : Program → Action → Bool
is_slot program (Get table key) = false
is_slot program (Update update table key value) =
    is_write update && option_map_or (is_own_pair program) (named_pair key value) false
is_slot program (Let left operator right) = false
is_slot program (Need left relation right) = false

-- an update that adds
abbrev pub is_add : TheUpdate → Bool
is_add SetTo = false
is_add Add = true
is_add Sub = false
is_add Max = false

-- a value that is 0, as it is written
abbrev pub is_nothing : Operand → Bool
is_nothing (Number number) = number == 0
is_nothing (Name place) = false

-- an action that adds 0: it takes its turn and changes nothing
abbrev pub is_turn : Action → Bool
is_turn (Get table key) = false
is_turn (Update update table key value) = is_add update && is_nothing value
is_turn (Let left operator right) = false
is_turn (Need left relation right) = false

-- all that the program does is to write cells that it is given, and to take turns
abbrev pub is_writer : Program → Bool
is_writer program =
    list_all (λ hop. list_all (λ action. is_slot program action || is_turn action) hop.actions)
    program.hops

-- the number lies in the range of the parameter
abbrev pub is_within : List ParameterRange → ℕ → ℕ → Bool
is_within ranges parameter number =
    option_map_or (λ interval. holds interval number) (range_of ranges parameter) true

-- key and value lie in the ranges of the parameters
abbrev pub is_pair_within : List ParameterRange → ℕ → ℕ → ℕ × ℕ → Bool
is_pair_within ranges key value pair = is_within ranges pair.0 key && is_within ranges pair.1 value

-- the action is of that table, and key and value lie in the ranges of its parameters
abbrev pub has_room : Program → ℕ → ℕ → ℕ → Action → Bool
has_room program table key value (Get other word) = false
has_room program table key value (Update update other word operand) =
    (other == table)
    && option_map_or (is_pair_within program.ranges key value) (named_pair word operand) false
has_room program table key value (Let left operator right) = false
has_room program table key value (Need left relation right) = false

-- the action writes the cell, if it is given key and value
abbrev pub writes_cell : Program → ℕ → ℕ → ℕ → Action → Bool
writes_cell program table key value action =
    is_slot program action && has_room program table key value action

-- the hop is at the server, and one of its actions does so
abbrev pub writes_in : Program → ℕ → ℕ → ℕ → ℕ → Hop → Bool
writes_in program server table key value hop =
    (hop.server == server) && list_any (writes_cell program table key value) hop.actions

-- The program is a writer, and has an action at the server that writes the cell of that table, key
-- and value, if it is given these.
abbrev pub writes : Program → ℕ → ℕ → ℕ → ℕ → Bool
writes program server table key value =
    is_writer program && list_any (writes_in program server table key value) program.hops

-- some program of the set does
abbrev pub set_writes : Set → ℕ → ℕ → ℕ → ℕ → Bool
set_writes set server table key value =
    list_any (λ named. writes named.1 server table key value) set.programs
