-- What a world keeps: its servers, and in which order they added their entries.
use Rattle.std.specs.Prelude.{◌≡◌, ℕ, false, length, map, slice_get, List, [], Option, Some, IsSome, All, option_map}
use Rattle.std.specs.List.{filter_map}
use Rattle.std.specs.Option.{option_and_then}
use Rattle.lynx_keep.specs.Kept.{KeptState}
use Rattle.lynx_set.specs.Set.{Set}
use Rattle.lynx_entry.specs.declared.message.Message.{Message}
use Rattle.lynx_server.specs.Serving.{Serving}
use Rattle.lynx_world.specs.declared.added.Added.{Added}
use Rattle.lynx_world.specs.Placed.{Placed}
use Rattle.lynx_world.specs.declared.listed.Listed.{Listed}
use Rattle.lynx_world.specs.Worlds.{history_of}
use Rattle.lynx_world.specs.Legal.{IsLegal, IsSent}

-- servers over what is kept in memory
abbrev pub Servers : Type 0
Servers = List (Serving KeptState)

-- the entry that was added
abbrev pub placed_of : Servers → Added → Option Placed
placed_of servers added =
    option_map (λ entry. record { server = added.server; entry = entry })
    (option_and_then (λ (here : Serving KeptState). slice_get here.history added.place)
    (slice_get servers added.server))

-- the entries in the order in which they were added
abbrev pub list_of : Servers → List Added → List Placed
list_of servers order = filter_map (placed_of servers) order

-- what each server holds
abbrev pub held_of : Servers → List (List Message)
held_of servers = map (λ (here : Serving KeptState). here.held) servers

-- a server of a world: it runs, its history is its part of the list, what it holds was sent, and
-- nobody acknowledges
pub record IsServerOf (set : Set) (list : List Placed) (server : ℕ)
    (here : Serving KeptState) : Type 0 where
  pub set_is : here.set ≡ set
  pub server_is : here.server ≡ server
  pub history_is : here.history ≡ history_of server list
  pub runs : here.is_stopped ≡ false
  pub unmarked : here.acknowledged ≡ []
  pub sent : All (IsSent set list) here.held

-- the servers of a world: one for each of the set, and a legal list of all that they added
pub record AreServers (set : Set) (servers : Servers) (order : List Added) : Type 0 where
  pub many : length servers ≡ set.servers
  pub each : (server : ℕ) (here : Serving KeptState) → slice_get servers server ≡ Some here
      → IsServerOf set (list_of servers order) server here
  pub found : All (λ added. IsSome (placed_of servers added)) order
  pub is_legal : IsLegal set (list_of servers order)

-- an entry of a list that is lent
abbrev pub placed_as : Option Listed → Option Placed
placed_as listed =
    option_map (λ (one : Listed). record { server = one.server; entry = one.entry.now }) listed
