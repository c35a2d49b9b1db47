-- Which sets have a text: within the limits, and with names, keys and shards as they are to be.
use Rattle.std.specs.Prelude.{◌≡◌, ℕ, ◌+◌, ◌^◌, ◌<◌, ◌≤◌, true, List, [], ◌∷◌, ◌++◌, Option, Some, None, length, map}
use Rattle.lynx_names.specs.declared.limits.TheConstants.{MAX_ACTIONS, MAX_HOPS, MAX_PARAMETERS, MAX_PROGRAMS, MAX_SERVERS, MAX_SHARDS, MAX_TABLES, MAX_TEXT_BYTES}
use Rattle.lynx_shards.specs.declared.shard.Shard.{Shard}
use Rattle.lynx_shards.specs.Ranges.{last_key, next_key}
use Rattle.lynx_set.specs.declared.action.Action.{Action}
use Rattle.lynx_set.specs.declared.action.Action.TheVariants.{Get, Update, Let, Need}
use Rattle.lynx_set.specs.declared.action.Update.{Update as TheUpdate}
use Rattle.lynx_set.specs.declared.action.Update.TheVariants.{Max}
use Rattle.lynx_set.specs.declared.action.Key.{Key}
use Rattle.lynx_set.specs.declared.action.Key.TheVariants.{Literal, Param}
use Rattle.lynx_set.specs.declared.action.Operand.{Operand}
use Rattle.lynx_set.specs.declared.action.Operand.TheVariants.{Number, Name}
use Rattle.lynx_set.specs.declared.program.ParameterRange.{ParameterRange}
use Rattle.lynx_set.specs.declared.version.Version.{Version}
use Rattle.lynx_set.specs.declared.version.Version.TheVariants.{Two}
use Rattle.lynx_set.specs.Scopes.{scope_in}
use Rattle.lynx_set.specs.Plain.{PlainHop, PlainProgram, PlainSet, plain_set}
use Rattle.lynx_set.specs.Names.{place_of}
use Rattle.lynx_set.specs.Scopes.{PlainScope, is_home}
use Rattle.lynx_set.specs.Set.{Set as ChainSet}
use Rattle.lynx_set.specs.Text.{text_of}
use Rattle.lynx_lex.specs.Word.{is_name}

-- a new name, where these are known
pub record IsNew (known : List (List ℕ)) (name : List ℕ) : Type 0 where
  pub named : is_name name ≡ true
  pub new : place_of known name ≡ None

-- names each of which is new after those before it
abbrev pub AreNew : List (List ℕ) → List (List ℕ) → Type 0
AreNew known [] = Unit {0}
AreNew known (name ∷ names) = IsNew known name × AreNew (known ++ name ∷ []) names

-- a key is a number below 2^64 or one of the parameters, by a place that a byte holds
abbrev pub FitsKey : ℕ → Key → Type 0
FitsKey parameters (Literal key) = key < 2 ^ 64
FitsKey parameters (Param place) = (place < parameters) × (place < 2 ^ 8)

-- a value is a number below 2^64 or one of the names known so far, by a place that a byte holds
abbrev pub FitsOperand : ℕ → Operand → Type 0
FitsOperand names (Number number) = number < 2 ^ 64
FitsOperand names (Name place) = (place < names) × (place < 2 ^ 8)

-- the cell of an action is one of the tables', and at the hop's server where its key is a number
pub record FitsCell (scope : PlainScope) (table : ℕ) (key : Key) : Type 0 where
  pub table_is : table < length scope.tables
  pub numbered : table < MAX_TABLES
  pub key_is : FitsKey scope.parameters key
  pub at_home : is_home scope.shards scope.server table key ≡ true

-- the updates that a version has: `max` is of version 2, the others of both
abbrev pub HasUpdate : Version → TheUpdate → Type 0
HasUpdate version Max = version ≡ Two
HasUpdate version update = Unit {0}

-- what an action may say where it stands
abbrev pub FitsAction : PlainScope → Action → Type 0
FitsAction scope (Get table key) = FitsCell scope table key
FitsAction scope (Update update table key value) =
    FitsCell scope table key × FitsOperand (length scope.names) value
    × HasUpdate scope.version update
FitsAction scope (Let left operator right) =
    FitsOperand (length scope.names) left × FitsOperand (length scope.names) right
FitsAction scope (Need left relation right) =
    (scope.is_first ≡ true) × FitsOperand (length scope.names) left
    × FitsOperand (length scope.names) right

-- an action binds a new name, or none
abbrev pub BindsNew : PlainScope → Action → Option (List ℕ) → Type 0
BindsNew scope (Get table key) (Some name) = IsNew scope.names name
BindsNew scope (Let left operator right) (Some name) = IsNew scope.names name
BindsNew scope (Update update table key value) None = Unit {0}
BindsNew scope (Need left relation right) None = Unit {0}
BindsNew scope action binds = ⊥

-- the names that are bound
abbrev pub bound : Option (List ℕ) → List (List ℕ)
bound None = []
bound (Some name) = name ∷ []

-- where the action after one stands that binds this
abbrev pub next_scope : PlainScope → Option (List ℕ) → PlainScope
next_scope scope binds =
    record scope { names = scope.names ++ bound binds; actions = scope.actions + 1 }

-- actions that can follow one another, after which these names are known
abbrev pub FitActions : PlainScope → List Action → List (List ℕ) → Type 0
FitActions scope [] after = scope.names ≡ after
FitActions scope (action ∷ actions) after =
    (scope.actions < MAX_ACTIONS) × FitsAction scope action × (binds : Option (List ℕ))
    × BindsNew scope action binds × FitActions (next_scope scope binds) actions after

-- a program with one more hop, after which these names are known
abbrev pub with_hop : PlainProgram → PlainHop → List (List ℕ) → PlainProgram
with_hop program hop names = record program { names = names; hops = program.hops ++ hop ∷ [] }

-- hops that can follow one another, after which these names are known
abbrev pub FitHops : PlainSet → PlainProgram → List PlainHop → List (List ℕ) → Type 0
FitHops set program [] after = program.names ≡ after
FitHops set program (hop ∷ hops) after =
    (length program.hops < MAX_HOPS) × (hop.server < set.servers) × (0 < length hop.actions)
    × (names : List (List ℕ)) × FitActions (scope_in set hop.server program []) hop.actions names
    × FitHops set (with_hop program hop names) hops after

-- ranges that can follow one another, of parameters from that one on: in order of the parameters,
-- one for each at most
abbrev pub FitRanges : ℕ → ℕ → List ParameterRange → Type 0
FitRanges parameters first [] = Unit {0}
FitRanges parameters first (range ∷ ranges) =
    (first ≤ range.parameter) × (range.parameter < parameters)
    × (range.interval.low ≤ range.interval.high) × (range.interval.high < 2 ^ 64)
    × FitRanges parameters (range.parameter + 1) ranges

-- a version has ranges: version 2 does
abbrev pub HasRanges : Version → List ParameterRange → Type 0
HasRanges version [] = Unit {0}
HasRanges version (range ∷ ranges) = version ≡ Two

-- a program of the set: few parameters, a hop at least, and no name but those that it binds
pub record FitsProgram (set : PlainSet) (program : PlainProgram) : Type 0 where
  pub parameters : List (List ℕ)
  pub few : length parameters ≤ MAX_PARAMETERS
  pub names : AreNew [] parameters
  pub count : program.parameters ≡ length parameters
  pub ranges : FitRanges (length parameters) 0 program.ranges
  pub has_ranges : HasRanges set.version program.ranges
  pub some : 0 < length program.hops
  pub hops : FitHops set
      (record {
        parameters = length parameters;
        names = parameters;
        ranges = program.ranges;
        hops = [];
      }) program.hops program.names

abbrev pub with_program : PlainSet → List ℕ × PlainProgram → PlainSet
with_program set program = record set { programs = set.programs ++ program ∷ [] }

-- programs that can follow one another
abbrev pub FitPrograms : PlainSet → List (List ℕ × PlainProgram) → Type 0
FitPrograms set [] = Unit {0}
FitPrograms set (program ∷ programs) =
    (length set.programs < MAX_PROGRAMS) × IsNew (map (λ named. named.0) set.programs) program.0
    × FitsProgram set program.1 × FitPrograms (with_program set program) programs

-- shards that can follow one another, to the greatest key
abbrev pub FitShards : ℕ → List Shard → List Shard → Type 0
FitShards servers before [] = next_key (last_key None before) ≡ 2 ^ 64
FitShards servers before (shard ∷ shards) =
    (length before < MAX_SHARDS) × (shard.low ≡ next_key (last_key None before))
    × (shard.low ≤ shard.high) × (shard.high < 2 ^ 64) × (shard.server < servers)
    × FitShards servers (before ++ shard ∷ []) shards

abbrev pub with_table : PlainSet → List ℕ → List Shard → PlainSet
with_table set name shards =
    record set { tables = set.tables ++ name ∷ []; shards = set.shards ++ shards ∷ [] }

-- tables that can follow one another, each with its shards
abbrev pub FitTables : PlainSet → List (List ℕ) → List (List Shard) → Type 0
FitTables set [] [] = Unit {0}
FitTables set (name ∷ names) (shards ∷ tables) =
    (length set.tables < MAX_TABLES) × IsNew set.tables name × FitShards set.servers [] shards
    × FitTables (with_table set name shards) names tables
FitTables set names tables = ⊥

abbrev pub no_tables : Version → ℕ → PlainSet
no_tables version servers =
    record { version = version; servers = servers; tables = []; shards = []; programs = [] }

abbrev pub no_programs : PlainSet → PlainSet
no_programs set = record set { programs = [] }

-- a set that has a text, if this isn't too long: 1 or more servers, within the limit, tables and
-- programs
abbrev pub IsPlainSet : PlainSet → Type 0
IsPlainSet set =
    (1 ≤ set.servers) × (set.servers ≤ MAX_SERVERS)
    × FitTables (no_tables set.version set.servers) set.tables set.shards
    × FitPrograms (no_programs set) set.programs

-- a set within all limits
abbrev pub IsSet : ChainSet → Type 0
IsSet set = IsPlainSet (plain_set set) × (length (text_of set) ≤ MAX_TEXT_BYTES)
