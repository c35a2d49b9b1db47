-- The lines of hops that are owed, with where, and since when.
use Rattle.std.specs.Prelude.{ℕ, List, [], ◌++◌, codes, decimal, Option}
use Rattle.std.specs.Io.KnownBytes.{Appends}
use Rattle.std.specs.List.{flat_map}
use Rattle.std.specs.Option.{option_map_or}
use Rattle.lynx_lex.specs.Lines.{with_feed}
use Rattle.lynx_lines.specs.Printed.{hop_text}
use Rattle.lynx_set.specs.Lookups.{server_at}
use Rattle.lynx_set.specs.Set.{Set}
use Rattle.lynx_keep.specs.Kept.{Terms}
use Rattle.lynx_world.specs.Placed.{Placed}
use Rattle.lynx_world.specs.Worlds.{WorldState}
use Rattle.lynx_report.specs.Owed.{AreTheOwed}
use Rattle.lynx_report.specs.declared.owed.OwedHop.{OwedHop}
use Rattle.lynx_audit.specs.Audits.{IsKeptWorld}
use Rattle.lynx_audit.specs.Latest.{latest_of}
use Rattle.lynx_audit.specs.declared.latest.Latest.{Latest}

-- the line of a hop at that server, the chain of which did its last hop at that stamp
abbrev pub owing_line : OwedHop → ℕ → ℕ → List ℕ
owing_line owed server stamp =
    with_feed (hop_text (codes "owed") owed.chain owed.hop ++ codes " server " ++ decimal server
    ++ codes " since " ++ decimal stamp)

-- the same, where the program has the hop
abbrev pub owing_by : Set → OwedHop → Latest → List ℕ
owing_by set owed latest =
    option_map_or (λ server. owing_line owed server latest.stamp)
    (server_at set latest.program owed.hop) []

-- the same, where the chain did something
abbrev pub owing_text : Set → List Placed → OwedHop → List ℕ
owing_text set list owed = option_map_or (owing_by set owed) (latest_of list owed.chain) []

-- a line for each
abbrev pub owing_lines : Set → List Placed → List OwedHop → List ℕ
owing_lines set list owed = flat_map (owing_text set list) owed

-- What chains owe in the world of what the keepers keep is written.
pub record TellsOwed {K : Type 0} (terms : Terms K) (set : Set) (keepers : List K)
    (old new : Option (List ℕ)) : Type 0 where
  pub world : WorldState
  pub kept : IsKeptWorld terms set keepers world
  pub owed : List OwedHop
  pub all : AreTheOwed set world.list owed
  pub written : Appends old new (owing_lines set world.list owed)
