-- Programs that can never begin, as their actions alone show it.
use Rattle.std.specs.Prelude.{ℕ, zero, suc, ◌+◌, ◌^◌, ◌==◌, ◌&&◌, ◌||◌, Bool, true, false, not, if◌then◌else◌, List, [], ◌++◌, map, take, find, length, Option, slice_get}
use Rattle.std.specs.List.{flat_map, list_all, range_with_len}
use Rattle.std.specs.Option.{option_map_or}
use Rattle.lynx_shards.specs.Shards.{server_of}
use Rattle.lynx_shards.specs.declared.shard.Shard.{Shard}
use Rattle.lynx_set.specs.Intervals.{holds, range_of}
use Rattle.lynx_set.specs.Lookups.{actions_at, cell_of, hop_at, hops_of, ranges_of}
use Rattle.lynx_set.specs.Set.{Set}
use Rattle.lynx_set.specs.declared.action.Action.{Action}
use Rattle.lynx_set.specs.declared.action.Action.TheVariants.{Get, Update, Let, Need}
use Rattle.lynx_set.specs.declared.action.Key.{Key}
use Rattle.lynx_set.specs.declared.action.Key.TheVariants.{Literal, Param}
use Rattle.lynx_set.specs.declared.action.Operand.{Operand}
use Rattle.lynx_set.specs.declared.action.Operand.TheVariants.{Number}
use Rattle.lynx_set.specs.declared.action.Relation.{Relation}
use Rattle.lynx_set.specs.declared.program.ParameterRange.{ParameterRange}
use Rattle.lynx_hops.specs.Meaning.{is_met}
use Rattle.lynx_reasons.specs.declared.never.first.NeverAt.{NeverAt}

-- some number below the bound passes
unfoldable pub some_below : ℕ → (ℕ → Bool) → Bool
some_below zero passes = false
some_below (suc bound) passes = passes bound || some_below bound passes

-- the number is one that the parameter's argument may be
abbrev pub is_argument : List ParameterRange → ℕ → ℕ → Bool
is_argument ranges parameter number =
    option_map_or (λ interval. holds interval number) (range_of ranges parameter) true

-- a cell of that key is at the server, where the number is the parameter's argument; of other keys
-- nothing is asked
abbrev pub is_key_home : List (List Shard) → ℕ → ℕ → ℕ → ℕ → Key → Bool
is_key_home shards parameter number server table (Literal key) = true
is_key_home shards parameter number server table (Param place) =
    if place == parameter then server_of shards table number == server else true

-- the same of the cell that an action touches, in a hop at the server
abbrev pub is_home : List (List Shard) → ℕ → ℕ → ℕ × Action → Bool
is_home shards parameter number (server, action) =
    option_map_or (λ cell. is_key_home shards parameter number server cell.0 cell.1)
    (cell_of action) true

-- actions, each with the server of their hop
abbrev pub with_server : ℕ → List Action → List (ℕ × Action)
with_server server actions = map (λ action. (server, action)) actions

-- the actions of a program up to one of them and with it, hop by hop
abbrev pub actions_to : Set → ℕ → NeverAt → List (ℕ × Action)
actions_to set program at =
    flat_map (λ hop. with_server hop.server hop.actions) (take at.hop (hops_of set program))
    ++ option_map_or (λ hop. with_server hop.server (take (at.action + 1) hop.actions))
    (hop_at set program at.hop) []

-- the number is left for the parameter by the actions up to that one: it may be the argument, and
-- keeps each cell of that key at the server of its hop
abbrev pub is_left : Set → ℕ → NeverAt → ℕ → ℕ → Bool
is_left set program at parameter number =
    is_argument (ranges_of set program) parameter number
    && list_all (is_home set.shards parameter number) (actions_to set program at)

-- the key is a parameter for which no number is left
abbrev pub is_stuck : Set → ℕ → NeverAt → Key → Bool
is_stuck set program at (Literal key) = false
is_stuck set program at (Param parameter) =
    not (some_below (2 ^ 64) (is_left set program at parameter))

-- both values are numbers, and the relation doesn't hold between them
abbrev pub is_false : Operand → Relation → Operand → Bool
is_false (Number left) relation (Number right) = not (is_met relation left right)
is_false left relation right = false

-- by that action no chain of the program begins
abbrev pub stops : Set → ℕ → NeverAt → Action → Bool
stops set program at (Get table key) = is_stuck set program at key
stops set program at (Update update table key value) = is_stuck set program at key
stops set program at (Let left operator right) = false
stops set program at (Need left relation right) = is_false left relation right

-- the program can't begin, by its action there
abbrev pub is_never : Set → ℕ → NeverAt → Bool
is_never set program at =
    option_map_or (stops set program at) (slice_get (actions_at set program at.hop) at.action) false

-- where the actions of a hop stand
abbrev pub places_in : Set → ℕ → ℕ → List NeverAt
places_in set program hop =
    map (λ action. record { hop = hop; action = action })
    (range_with_len 0 (length (actions_at set program hop)))

-- where those of a program stand, hop by hop
abbrev pub action_places : Set → ℕ → List NeverAt
action_places set program =
    flat_map (places_in set program) (range_with_len 0 (length (hops_of set program)))

-- the first action by which the program can't begin
abbrev pub first_never : Set → ℕ → Option NeverAt
first_never set program = find (is_never set program) (action_places set program)
