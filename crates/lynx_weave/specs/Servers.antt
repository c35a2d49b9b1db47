-- The servers of a set.
use Rattle.std.specs.Prelude.{◌≡◌, ℕ, List, map, length, slice_get, Some}
use Rattle.lynx_set.specs.Set.{Set}
use Rattle.lynx_entry.specs.Entry.{History}
use Rattle.lynx_server.specs.History.{IsLawfulHistory}
use Rattle.lynx_server.specs.Serving.{Serving}

-- what each server did
abbrev pub histories_of : {K : Type 0} → List (Serving K) → List History
histories_of {K} servers = map (λ (here : Serving K). here.history) servers

-- it is the server of that number, and its history is lawful there
pub record IsServerAt {K : Type 0} (set : Set) (server : ℕ) (here : Serving K) : Type 0 where
  pub set_is : here.set ≡ set
  pub server_is : here.server ≡ server
  pub lawful : IsLawfulHistory set server here.history

-- one server for each of the set, in order
pub record AreServersOf {K : Type 0} (set : Set) (servers : List (Serving K)) : Type 0 where
  pub many : length servers ≡ set.servers
  pub each : (server : ℕ) (here : Serving K) → slice_get servers server ≡ Some here →
      IsServerAt set server here
