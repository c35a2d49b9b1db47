-- What the servers of a world come to, and servers in which nothing happened yet.
use Rattle.std.specs.Prelude.{ℕ, false, map, List, [], Option, Some, None}
use Rattle.std.specs.List.{range_with_len}
use Rattle.lynx_keep.specs.Kept.{KeptState, nothing_kept}
use Rattle.lynx_set.specs.Set.{Set}
use Rattle.lynx_entry.specs.declared.event.Outcome.{Outcome}
use Rattle.lynx_entry.specs.declared.event.Outcome.TheVariants.{Idle, Woken as WokenNow}
use Rattle.lynx_server.specs.Serving.{Serving}
use Rattle.lynx_server.specs.declared.server.Woken.{Woken}
use Rattle.lynx_world.specs.Tables.{cells_after}
use Rattle.lynx_world.specs.Servers.{Servers}

-- the nonzero cells of a server, each a table, a key and a value
abbrev pub cells_left : Serving KeptState → List (ℕ × ℕ × ℕ)
cells_left here = cells_after here.set here.history

-- a server in which nothing happened yet
abbrev pub new_server : Set → ℕ → Serving KeptState
new_server set server = record {
  set = set;
  server = server;
  history = [];
  held = [];
  is_stopped = false;
  opened = 0;
  acknowledged = [];
  keeper = nothing_kept;
}

-- one for each server of the set
abbrev pub new_servers : Set → Servers
new_servers set = map (new_server set) (range_with_len 0 set.servers)

-- what a waking comes to
abbrev pub waking : ℕ → Option Woken → Outcome
waking server (Some woken) = WokenNow woken.chain woken.hop woken.delivered
waking server None = Idle server
