-- A step of a world.
use Rattle.std.specs.Prelude.{◌≡◌, ◌⊎◌, ℕ, ◌==◌, ◌&&◌, Bool, true, false, not, if◌then◌else◌, nat_lt, List, [], ◌∷◌, ◌++◌, find, filter, unwrap_or, option_map, slice_get, slice_set, is_some, Option, Some, None}
use Rattle.lynx_names.specs.declared.chain.ChainId.{ChainId}
use Rattle.lynx_names.specs.declared.limits.TheConstants.{MAX_HELD}
use Rattle.lynx_set.specs.Set.{Set}
use Rattle.lynx_entry.specs.declared.answer.Delivered.{Delivered}
use Rattle.lynx_entry.specs.declared.answer.Delivered.TheVariants.{Full}
use Rattle.lynx_entry.specs.declared.entry.Entry.{Entry}
use Rattle.lynx_entry.specs.declared.message.Message.{Message}
use Rattle.lynx_entry.specs.Entry.{History}
pub use Rattle.lynx_turn.specs.Held.{least_of}
use Rattle.lynx_rules.specs.Turns.{turn_of}
use Rattle.lynx_rules.specs.Lawful.{number_at}
use Rattle.lynx_rules.specs.Answers.{Begins, answer}
use Rattle.lynx_rules.specs.Deliveries.{Delivers, same_chain, same_hop, delivery}
use Rattle.lynx_entry.specs.declared.event.Event.{Event}
use Rattle.lynx_entry.specs.declared.event.Event.TheVariants.{Begin, Deliver, Wake, Lost, Restart}
use Rattle.lynx_entry.specs.declared.event.Outcome.{Outcome}
use Rattle.lynx_entry.specs.declared.event.Outcome.TheVariants.{Answered, Delivered as DeliveredNow, Woken, NotSent, LostNow, Idle, Restarted, NoServer}
use Rattle.lynx_world.specs.Placed.{Placed}
use Rattle.lynx_world.specs.Worlds.{WorldState, history_of, messages_of}
use Rattle.lynx_set.specs.Lookups.{hop_at}

-- an outcome, and the world after it
pub record Step : Type 0 where
  pub outcome : Outcome
  pub world : WorldState

-- an outcome that changes nothing
abbrev pub stays : WorldState → Outcome → Step
stays world outcome = record { outcome = outcome; world = world }

-- a server of the set
abbrev pub is_server : WorldState → ℕ → Bool
is_server world server = nat_lt server world.set.servers

-- the entry is added at the end, if there is one
abbrev pub list_with : ℕ → Option Entry → List Placed → List Placed
list_with server None list = list
list_with server (Some entry) list = list ++ record { server = server; entry = entry } ∷ []

-- what the server holds
abbrev pub held_at : WorldState → ℕ → List Message
held_at world server = unwrap_or (slice_get world.held server) []

-- a message for that hop of the chain
abbrev pub is_message_of : ChainId → ℕ → Message → Bool
is_message_of chain hop message = same_chain message.chain chain && (message.hop == hop)

-- the message of that hop of the chain, if an entry of the list sends it
abbrev pub sent_message : Set → ChainId → ℕ → List Placed → Option Message
sent_message set chain hop list = find (is_message_of chain hop) (messages_of set list)

-- the server that a message is for
abbrev pub destination_of : Set → Message → ℕ
destination_of set message =
    unwrap_or (option_map (λ hop. hop.server) (hop_at set message.program message.hop)) 0

-- the world after a delivery at a server
abbrev pub after_delivery : WorldState → ℕ → Delivers → List Message → WorldState
after_delivery world server delivers held =
    record world {
      list = list_with server delivers.added world.list;
      held = slice_set world.held server held;
    }

-- the message is delivered to the server that it is for
abbrev pub deliver_to : ℕ → WorldState → ℕ → ChainId → ℕ → Message → Step
deliver_to room world server chain hop message =
    let delivers =
    delivery world.set server room (history_of server world.list) (held_at world server)
    message in
    record {
      outcome = DeliveredNow chain hop delivers.delivered;
      world = after_delivery world server delivers delivers.held;
    }

abbrev pub deliver_sent : ℕ → WorldState → ChainId → ℕ → Option Message → Step
deliver_sent room world chain hop None = stays world (NotSent chain hop)
deliver_sent room world chain hop (Some message) =
    let server = destination_of world.set message in
    if is_server world server then deliver_to room world server chain hop message else stays world
    NoServer

-- it is the message's turn at the server
abbrev pub stands_now : Set → ℕ → History → Message → Bool
stands_now set server history message =
    unwrap_or (number_at message.numbers server) 0 == turn_of set server history
    message.chain.origin

abbrev pub is_full_answer : Delivered → Bool
is_full_answer Full = true
is_full_answer given = false

-- a held message is delivered; it is held no longer, unless there was no room for its entry
abbrev pub wake_at : ℕ → WorldState → ℕ → Option Message → Step
wake_at room world server None = stays world (Idle server)
wake_at room world server (Some message) =
    let delivers =
    delivery world.set server room (history_of server world.list) (held_at world server)
    message in
    let held = if is_full_answer delivers.delivered then delivers.held
    else filter (λ other. not (same_hop other message)) delivers.held in
    record {
      outcome = Woken message.chain message.hop delivers.delivered;
      world = after_delivery world server delivers held;
    }

abbrev pub begin_at : WorldState → ℕ → Begins → Step
begin_at world server begins =
    record {
      outcome = Answered begins.answer;
      world = record world { list = list_with server begins.added world.list };
    }

-- The step of a world, whose servers each have room to hold so many messages. An entry that is
-- added goes last.
abbrev pub step : ℕ → WorldState → Event → Step
step room world (Begin server request seen) =
    if is_server world server
    then begin_at world server (answer world.set server (history_of server world.list) request seen)
    else stays world NoServer
step room world (Deliver chain hop) =
    deliver_sent room world chain hop (sent_message world.set chain hop world.list)
step room world (Wake server) =
    if is_server world server
    then wake_at room world server
    (least_of (filter (stands_now world.set server (history_of server world.list))
    (held_at world server)))
    else stays world NoServer
step room world (Lost chain hop) =
    if is_some (sent_message world.set chain hop world.list) then stays world (LostNow chain hop)
    else stays world (NotSent chain hop)
step room world (Restart server) =
    if is_server world server
    then record {
      outcome = Restarted server;
      world = record world { held = slice_set world.held server [] };
    }
    else stays world NoServer

-- the list is as it was, or has one more entry at its end
abbrev pub HasGrown : List Placed → List Placed → Type 0
HasGrown old new = (new ≡ old) ⊎ ((placed : Placed) × (new ≡ old ++ placed ∷ []))

-- the world after these events, whose servers each have the room that servers have
abbrev pub world_after : WorldState → List Event → WorldState
world_after world [] = world
world_after world (event ∷ events) = world_after (step MAX_HELD world event).world events
