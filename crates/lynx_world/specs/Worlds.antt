-- A world: what all servers have done, in one order.
use Rattle.std.specs.Prelude.{ℕ, ◌==◌, if◌then◌else◌, List, [], replicate, Option, Some, None}
use Rattle.std.specs.List.{filter_map}
use Rattle.lynx_set.specs.Set.{Set}
use Rattle.lynx_entry.specs.declared.entry.Entry.{Entry}
use Rattle.lynx_entry.specs.declared.message.Message.{Message}
use Rattle.lynx_entry.specs.Entry.{History}
use Rattle.lynx_rules.specs.Messages.{next_message}
use Rattle.lynx_world.specs.Placed.{Placed}

-- A set, the entries of all its servers in one list, and what each server holds: one list of
-- messages for each.
pub record WorldState : Type 0 where
  pub set : Set
  pub list : List Placed
  pub held : List (List Message)

-- a world in which nothing happened yet
abbrev pub new_world : Set → WorldState
new_world set = record { set = set; list = []; held = replicate set.servers [] }

-- the entry, if it is of that server
abbrev pub entry_at : ℕ → Placed → Option Entry
entry_at server placed = if placed.server == server then Some placed.entry else None

-- the history of one server
abbrev pub history_of : ℕ → List Placed → History
history_of server list = filter_map (entry_at server) list

-- the messages that were sent
abbrev pub messages_of : Set → List Placed → List Message
messages_of set list = filter_map (λ placed. next_message set placed.entry) list
