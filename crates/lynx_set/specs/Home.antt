-- Where the literal keys of a set lie.
use Rattle.std.specs.Prelude.{◌≡◌, ℕ, Bool, true, List, Option, Some, None}
use Rattle.std.specs.List.{list_all}
use Rattle.lynx_shards.specs.declared.shard.Shard.{Shard}
use Rattle.lynx_set.specs.declared.action.Action.{Action}
use Rattle.lynx_set.specs.declared.action.Key.{Key}
use Rattle.lynx_set.specs.declared.program.Hop.{Hop}
use Rattle.lynx_set.specs.Lookups.{cell_of, hop_at}
use Rattle.lynx_set.specs.Set.{Set}
use Rattle.lynx_set.specs.Scopes.{is_home}

-- the cell is at the server, if its key is a literal
abbrev pub is_cell_home : List (List Shard) → ℕ → Option (ℕ × Key) → Bool
is_cell_home shards server (Some cell) = is_home shards server cell.0 cell.1
is_cell_home shards server None = true

-- the cell that the action touches is at the server, if its key is a literal
abbrev pub is_action_home : List (List Shard) → ℕ → Action → Bool
is_action_home shards server action = is_cell_home shards server (cell_of action)

-- Each literal key of each hop of the set lies at the hop's server.
abbrev pub AreLiteralsHome : Set → Type 0
AreLiteralsHome set =
    (program number : ℕ) (hop : Hop) → hop_at set program number ≡ Some hop →
    list_all (is_action_home set.shards hop.server) hop.actions ≡ true
