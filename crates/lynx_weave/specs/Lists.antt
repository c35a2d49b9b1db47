-- Entries of all servers, by histories and in one order.
use Rattle.std.specs.Prelude.{◌≡◌, ◌⊎◌, ◌<◌, ℕ, List, slice_get, Option, Some, option_and_then}
use Rattle.lynx_set.specs.Set.{Set}
use Rattle.lynx_entry.specs.declared.entry.Entry.{Entry}
use Rattle.lynx_entry.specs.Entry.{History, stamp_of}
use Rattle.lynx_world.specs.Placed.{Placed}
use Rattle.lynx_world.specs.Legal.{IsLegal}
use Rattle.lynx_world.specs.Worlds.{history_of}

-- the entry at that place of that server's history
abbrev pub entry_in : List History → ℕ → ℕ → Option Entry
entry_in histories server place =
    option_and_then (λ history. slice_get history place) (slice_get histories server)

-- by stamp, then server
abbrev pub ComesBefore : Placed → Placed → Type 0
ComesBefore left right =
    (stamp_of left.entry < stamp_of right.entry)
    ⊎ ((stamp_of left.entry ≡ stamp_of right.entry) × (left.server < right.server))

-- each entry comes before those behind it
abbrev pub IsInOrder : List Placed → Type 0
IsInOrder list =
    (place later : ℕ) (one other : Placed) → place < later → slice_get list place ≡ Some one →
    slice_get list later ≡ Some other → ComesBefore one other

-- A legal list of all entries of these histories, one for each server, in order of stamp, then
-- server.
pub record IsListOf (set : Set) (histories : List History) (list : List Placed) : Type 0 where
  pub legal : IsLegal set list
  pub in_order : IsInOrder list
  pub histories_are : (server : ℕ) (history : History) → slice_get histories server ≡ Some history →
      history_of server list ≡ history
