-- A set of chain programs as a value.
use Rattle.std.specs.Prelude.{ℕ, List}
use Rattle.lynx_shards.specs.declared.shard.Shard.{Shard}
use Rattle.lynx_set.specs.declared.program.Program.{Program}
use Rattle.lynx_set.specs.declared.version.Version.{Version}

-- a set: its version, its servers, its tables and their shards, and its programs under their names,
-- as declared
pub record Set : Type 0 where
  pub version : Version
  pub servers : ℕ
  pub tables : List (List ℕ)
  pub shards : List (List Shard)
  pub programs : List (List ℕ × Program)
