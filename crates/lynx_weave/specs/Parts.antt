-- What each server has of a list.
use Rattle.std.specs.Prelude.{◌≡◌, ℕ, List, length, slice_get, Some}
use Rattle.lynx_set.specs.Set.{Set}
use Rattle.lynx_entry.specs.Entry.{History}
use Rattle.lynx_world.specs.Placed.{Placed}
use Rattle.lynx_world.specs.Worlds.{history_of}

-- a history for each server: just its entries of the list, in order
pub record ArePartsOf (set : Set) (list : List Placed) (histories : List History) : Type 0 where
  pub many : length histories ≡ set.servers
  pub each : (server : ℕ) (history : History) → slice_get histories server ≡ Some history
      → history_of server list ≡ history
