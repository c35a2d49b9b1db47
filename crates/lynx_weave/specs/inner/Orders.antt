-- Going through histories in one order.
use Rattle.std.specs.Prelude.{◌≡◌, ◌⊎◌, ◌<◌, ◌≤◌, ℕ, if◌then◌else◌, nat_lt, List, slice_get, Option, Some, None, option_and_then}
use Rattle.lynx_set.specs.Set.{Set}
use Rattle.lynx_entry.specs.declared.entry.Entry.{Entry}
use Rattle.lynx_entry.specs.Entry.{History, stamp_of}
use Rattle.lynx_world.specs.declared.added.Added.{Added}
use Rattle.lynx_world.specs.Servers.{AreServers, Servers, list_of}
use Rattle.lynx_weave.specs.Lists.{IsInOrder, entry_in}

-- the next entry of that server, where as many of each history are through
abbrev pub next_in : List History → List ℕ → ℕ → Option Entry
next_in histories places server =
    option_and_then (entry_in histories server) (slice_get places server)

-- the server's next entry, which none of another comes before
pub record IsLeastNext (histories : List History) (places : List ℕ) (server : ℕ) : Type 0 where
  pub entry : Entry
  pub next : next_in histories places server ≡ Some entry
  pub least : (other : ℕ) (its : Entry) → next_in histories places other ≡ Some its →
      (stamp_of entry < stamp_of its) ⊎ ((stamp_of entry ≡ stamp_of its) × (server ≤ other))

-- all histories are through, or that server's next entry is the least
abbrev pub IsNextAt : List History → List ℕ → Option ℕ → Type 0
IsNextAt histories places None = (server : ℕ) → next_in histories places server ≡ None
IsNextAt histories places (Some server) = IsLeastNext histories places server

-- the least stamp so far with its server, or this one with this server where it is lower
abbrev pub lesser : Option (ℕ × ℕ) → ℕ → ℕ → ℕ × ℕ
lesser None stamp number = (stamp, number)
lesser (Some least) stamp number = if nat_lt stamp least.0 then (stamp, number) else least

-- the same with this server's next entry, if it has one
abbrev pub with_next : Option (ℕ × ℕ) → ℕ → Option Entry → Option (ℕ × ℕ)
with_next least number None = least
with_next least number (Some entry) = Some (lesser least (stamp_of entry) number)

-- servers of a world whose list is in order
pub record IsOrderOf (set : Set) (servers : Servers) (order : List Added) : Type 0 where
  pub are : AreServers set servers order
  pub in_order : IsInOrder (list_of servers order)
