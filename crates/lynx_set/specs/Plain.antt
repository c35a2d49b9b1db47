-- Sets as their lines spell them, without the proofs of limits that programs and hops carry.
use Rattle.std.specs.Prelude.{ℕ, List, map}
use Rattle.lynx_shards.specs.declared.shard.Shard.{Shard}
use Rattle.lynx_set.specs.declared.action.Action.{Action}
use Rattle.lynx_set.specs.declared.program.Hop.{Hop}
use Rattle.lynx_set.specs.declared.program.ParameterRange.{ParameterRange}
use Rattle.lynx_set.specs.declared.program.Program.{Program}
use Rattle.lynx_set.specs.declared.version.Version.{Version}
use Rattle.lynx_set.specs.Set.{Set}

-- a hop's server and actions
pub record PlainHop : Type 0 where
  pub server : ℕ
  pub actions : List Action

-- a program's parameters, names, ranges and hops
pub record PlainProgram : Type 0 where
  pub parameters : ℕ
  pub names : List (List ℕ)
  pub ranges : List ParameterRange
  pub hops : List PlainHop

-- a set's version, servers, tables, shards and programs
pub record PlainSet : Type 0 where
  pub version : Version
  pub servers : ℕ
  pub tables : List (List ℕ)
  pub shards : List (List Shard)
  pub programs : List (List ℕ × PlainProgram)

abbrev pub plain_hop : Hop → PlainHop
plain_hop hop = record { server = hop.server; actions = hop.actions }

abbrev pub plain_program : Program → PlainProgram
plain_program program =
    record {
      parameters = program.parameters;
      names = program.names;
      ranges = program.ranges;
      hops = map plain_hop program.hops;
    }

abbrev pub plain_named : List ℕ × Program → List ℕ × PlainProgram
plain_named named = (named.0, plain_program named.1)

abbrev pub plain_set : Set → PlainSet
plain_set set =
    record {
      version = set.version;
      servers = set.servers;
      tables = set.tables;
      shards = set.shards;
      programs = map plain_named set.programs;
    }
