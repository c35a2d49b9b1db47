-- The one text of a set.
use Rattle.std.specs.Prelude.{ℕ, ◌+◌, List, [], ◌∷◌, ◌++◌, map, take, codes, decimal, unwrap_or, slice_get}
use Rattle.lynx_shards.specs.declared.shard.Shard.{Shard}
use Rattle.lynx_set.specs.declared.action.Action.{Action}
use Rattle.lynx_set.specs.declared.action.Action.TheVariants.{Get, Update, Let, Need}
use Rattle.lynx_set.specs.declared.action.Key.{Key}
use Rattle.lynx_set.specs.declared.action.Key.TheVariants.{Literal, Param}
use Rattle.lynx_set.specs.declared.action.Operand.{Operand}
use Rattle.lynx_set.specs.declared.action.Operand.TheVariants.{Number, Name}
use Rattle.lynx_set.specs.declared.action.Operator.{Operator}
use Rattle.lynx_set.specs.declared.action.Operator.TheVariants.{Plus, Minus}
use Rattle.lynx_set.specs.declared.action.Relation.{Relation}
use Rattle.lynx_set.specs.declared.action.Relation.TheVariants.{Below, AtMost, Same, Differs, AtLeast, Above}
use Rattle.lynx_set.specs.declared.action.Update.{Update as TheUpdate}
use Rattle.lynx_set.specs.declared.action.Update.TheVariants.{Set as SetTo, Add, Sub, Max}
use Rattle.lynx_set.specs.declared.program.Hop.{Hop}
use Rattle.lynx_set.specs.declared.interval.Interval.{Interval}
use Rattle.lynx_set.specs.declared.program.ParameterRange.{ParameterRange}
use Rattle.lynx_set.specs.declared.program.Program.{Program}
use Rattle.lynx_set.specs.declared.version.Version.{Version}
use Rattle.lynx_set.specs.declared.version.Version.TheVariants.{One, Two}
use Rattle.lynx_set.specs.Set.{Set as ChainSet}
use Rattle.lynx_lex.specs.Lines.{line}

-- lines, one after another
abbrev pub text : List (List (List ℕ)) → List ℕ
text [] = []
text (words ∷ lines) = line words ++ text lines

-- the name at a place
abbrev pub name_at : List (List ℕ) → ℕ → List ℕ
name_at names place = unwrap_or (slice_get names place) []

-- a key, where the program has these names
abbrev pub key_word : List (List ℕ) → Key → List ℕ
key_word names (Literal key) = decimal key
key_word names (Param place) = name_at names place

-- a value
abbrev pub operand_word : List (List ℕ) → Operand → List ℕ
operand_word names (Number number) = decimal number
operand_word names (Name place) = name_at names place

abbrev pub operator_word : Operator → List ℕ
operator_word Plus = codes "+"
operator_word Minus = codes "-"

abbrev pub relation_word : Relation → List ℕ
relation_word Below = codes "<"
relation_word AtMost = codes "<="
relation_word Same = codes "="
relation_word Differs = codes "!="
relation_word AtLeast = codes ">="
relation_word Above = codes ">"

abbrev pub update_word : TheUpdate → List ℕ
update_word SetTo = codes "set"
update_word Add = codes "add"
update_word Sub = codes "sub"
update_word Max = codes "max"

-- the words of an action, which binds the name at that place if it binds one
abbrev pub action_words : List (List ℕ) → List (List ℕ) → ℕ → Action → List (List ℕ)
action_words tables names place (Get table key) =
    codes "get" ∷ name_at names place ∷ name_at tables table ∷ key_word names key ∷ []
action_words tables names place (Update update table key value) =
    update_word update ∷ name_at tables table ∷ key_word names key ∷ operand_word names value ∷ []
action_words tables names place (Let left operator right) =
    codes "let" ∷ name_at names place ∷ operand_word names left ∷ operator_word operator
    ∷ operand_word names right ∷ []
action_words tables names place (Need left relation right) =
    codes "need" ∷ operand_word names left ∷ relation_word relation ∷ operand_word names right ∷ []

-- how many names an action binds
abbrev pub bound_names : Action → ℕ
bound_names (Get table key) = 1
bound_names (Update update table key value) = 0
bound_names (Let left operator right) = 1
bound_names (Need left relation right) = 0

-- the lines of actions, the first of which binds the name at that place if it binds one
abbrev pub action_lines : List (List ℕ) → List (List ℕ) → ℕ → List Action → List (List (List ℕ))
action_lines tables names place [] = []
action_lines tables names place (action ∷ actions) =
    action_words tables names place action
    ∷ action_lines tables names (place + bound_names action) actions

-- how many names actions bind
abbrev pub bound_in : List Action → ℕ
bound_in [] = 0
bound_in (action ∷ actions) = bound_names action + bound_in actions

-- the lines of a hop
abbrev pub hop_lines : List (List ℕ) → List (List ℕ) → ℕ → Hop → List (List (List ℕ))
hop_lines tables names place hop =
    (codes "hop" ∷ decimal hop.server ∷ []) ∷ action_lines tables names place hop.actions

-- the lines of hops
abbrev pub hops_lines : List (List ℕ) → List (List ℕ) → ℕ → List Hop → List (List (List ℕ))
hops_lines tables names place [] = []
hops_lines tables names place (hop ∷ hops) =
    hop_lines tables names place hop ++ hops_lines tables names (place + bound_in hop.actions) hops

-- the words of a program's first line
abbrev pub program_words : List ℕ → Program → List (List ℕ)
program_words name program = codes "program" ∷ name ∷ take program.parameters program.names

-- an interval, its least number first
abbrev pub interval_word : Interval → List ℕ
interval_word interval = decimal interval.low ++ codes ".." ++ decimal interval.high

-- the words of a range, where the program has these names
abbrev pub range_words : List (List ℕ) → ParameterRange → List (List ℕ)
range_words names range =
    codes "range" ∷ name_at names range.parameter ∷ interval_word range.interval ∷ []

-- the lines of a program under its name
abbrev pub program_lines : List (List ℕ) → List ℕ × Program → List (List (List ℕ))
program_lines tables (name, program) =
    program_words name program ∷ map (range_words program.names) program.ranges
    ++ hops_lines tables program.names program.parameters program.hops ++ (codes "end" ∷ [])
    ∷ []

-- the lines of programs
abbrev pub programs_lines : List (List ℕ) → List (List ℕ × Program) → List (List (List ℕ))
programs_lines tables [] = []
programs_lines tables (program ∷ programs) =
    program_lines tables program ++ programs_lines tables programs

abbrev pub shard_words : Shard → List (List ℕ)
shard_words shard =
    codes "shard" ∷ decimal shard.low ∷ decimal shard.high ∷ decimal shard.server ∷ []

-- the lines of a table and its shards
abbrev pub table_lines : List ℕ → List Shard → List (List (List ℕ))
table_lines name shards = (codes "table" ∷ name ∷ []) ∷ map shard_words shards

-- the lines of tables
abbrev pub tables_lines : List (List ℕ) → List (List Shard) → List (List (List ℕ))
tables_lines [] tables = []
tables_lines (name ∷ names) [] = []
tables_lines (name ∷ names) (shards ∷ tables) = table_lines name shards ++ tables_lines names tables

abbrev pub version_word : Version → List ℕ
version_word One = codes "1"
version_word Two = codes "2"

abbrev pub version_words : Version → List (List ℕ)
version_words version = codes "lynx" ∷ version_word version ∷ []

-- the version, and how many servers there are
abbrev pub head_lines : Version → ℕ → List (List (List ℕ))
head_lines version servers = version_words version ∷ (codes "servers" ∷ decimal servers ∷ []) ∷ []

-- the lines of a set
abbrev pub set_lines : ChainSet → List (List (List ℕ))
set_lines set =
    head_lines set.version set.servers ++ tables_lines set.tables set.shards
    ++ programs_lines set.tables set.programs

-- the text of a set
abbrev pub text_of : ChainSet → List ℕ
text_of set = text (set_lines set)
