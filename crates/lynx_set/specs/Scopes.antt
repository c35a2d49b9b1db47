-- What an action may name, and where it stands.
use Rattle.std.specs.Prelude.{ℕ, Bool, true, List, length, ◌==◌}
use Rattle.lynx_shards.specs.declared.shard.Shard.{Shard}
use Rattle.lynx_shards.specs.Shards.{server_of}
use Rattle.lynx_set.specs.declared.action.Action.{Action}
use Rattle.lynx_set.specs.declared.action.Key.{Key}
use Rattle.lynx_set.specs.declared.action.Key.TheVariants.{Literal, Param}
use Rattle.lynx_set.specs.declared.version.Version.{Version}
use Rattle.lynx_set.specs.Plain.{PlainProgram, PlainSet}

-- the version, names, tables and shards that an action has before it, and where it stands
pub record PlainScope : Type 0 where
  pub version : Version
  pub tables : List (List ℕ)
  pub shards : List (List Shard)
  pub parameters : ℕ
  pub names : List (List ℕ)
  pub is_first : Bool
  pub server : ℕ
  pub actions : ℕ

-- a literal key is at that server
abbrev pub is_home : List (List Shard) → ℕ → ℕ → Key → Bool
is_home shards server table (Literal key) = server_of shards table key == server
is_home shards server table (Param place) = true

-- where the next action of a hop stands
abbrev pub scope_in : PlainSet → ℕ → PlainProgram → List Action → PlainScope
scope_in set server program actions = record {
  version = set.version;
  tables = set.tables;
  shards = set.shards;
  parameters = program.parameters;
  names = program.names;
  is_first = length program.hops == 0;
  server = server;
  actions = length actions;
}
