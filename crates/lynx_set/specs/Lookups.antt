-- What a set says of its programs and tables, by their numbers, and what an action says of itself.
use Rattle.std.specs.Prelude.{ℕ, Bool, true, false, List, [], Option, Some, None, map, slice_get, unwrap_or, option_and_then, option_map}
use Rattle.lynx_set.specs.declared.action.Action.{Action}
use Rattle.lynx_set.specs.declared.action.Action.TheVariants.{Get, Update, Let, Need}
use Rattle.lynx_set.specs.declared.action.Key.{Key}
use Rattle.lynx_set.specs.declared.program.Hop.{Hop}
use Rattle.lynx_set.specs.declared.program.ParameterRange.{ParameterRange}
use Rattle.lynx_set.specs.declared.program.Program.{Program}
use Rattle.lynx_set.specs.Set.{Set}

-- the program of that number
abbrev pub program_at : Set → ℕ → Option Program
program_at set program = option_map (λ named. named.1) (slice_get set.programs program)

-- the ranges of its parameters, none where there is no such program
abbrev pub ranges_of : Set → ℕ → List ParameterRange
ranges_of set program = unwrap_or (option_map (λ found. found.ranges) (program_at set program)) []

-- its hops, none where there is no such program
abbrev pub hops_of : Set → ℕ → List Hop
hops_of set program = unwrap_or (option_map (λ found. found.hops) (program_at set program)) []

-- the hop of that number, counted from 0
abbrev pub hop_at : Set → ℕ → ℕ → Option Hop
hop_at set program hop =
    option_and_then (λ found. slice_get found.hops hop) (program_at set program)

-- its actions, none where there is no such hop
abbrev pub actions_at : Set → ℕ → ℕ → List Action
actions_at set program hop =
    unwrap_or (option_map (λ found. found.actions) (hop_at set program hop)) []

-- its server
abbrev pub server_at : Set → ℕ → ℕ → Option ℕ
server_at set program hop = option_map (λ found. found.server) (hop_at set program hop)

-- the origin of a program: the server of its first hop
abbrev pub origin_of : Set → ℕ → Option ℕ
origin_of set program = server_at set program 0

-- the table and the key of the cell that an action touches, none for `let` and `need`
abbrev pub cell_of : Action → Option (ℕ × Key)
cell_of (Get table key) = Some (table, key)
cell_of (Update update table key value) = Some (table, key)
cell_of (Let left operator right) = None
cell_of (Need left relation right) = None

-- an action binds a name: `get` and `let` do
abbrev pub binds : Action → Bool
binds (Get table key) = true
binds (Update update table key value) = false
binds (Let left operator right) = true
binds (Need left relation right) = false

-- the names of the programs
abbrev pub program_names : Set → List (List ℕ)
program_names set = map (λ named. named.0) set.programs

-- the name of a program, and of a table
abbrev pub program_name : Set → ℕ → List ℕ
program_name set program =
    unwrap_or (option_map (λ named. named.0) (slice_get set.programs program)) []

abbrev pub table_name : Set → ℕ → List ℕ
table_name set table = unwrap_or (slice_get set.tables table) []
