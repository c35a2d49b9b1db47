-- Whatever events come to a world, its list stays legal, and what its servers hold was sent.
use Rattle.std.proofs.Common.{◌≡◌, ◌∙◌, ℕ, zero, suc, Bool, true, false, not, cond, nat_lt, if◌then◌else◌, filter, replicate, List, [], ◌∷◌, slice_get, slice_set, Option, Some, None, IfSome, All, unwrap_or, refl, sym, subst}
use Rattle.std.specs.Prelude.{is_some}
use Rattle.std.proofs.lemmas.Bool.{ltb-true}
use Rattle.std.proofs.lemmas.List.Elements.{All-filter, All-nil}
use Rattle.lynx_names.specs.declared.chain.ChainId.{ChainId}
use Rattle.lynx_names.specs.declared.limits.TheConstants.{MAX_HELD}
use Rattle.lynx_set.specs.Set.{Set}
use Rattle.lynx_entry.specs.declared.entry.Entry.{Entry}
use Rattle.lynx_entry.specs.declared.event.Event.{Event}
use Rattle.lynx_entry.specs.declared.event.Event.TheVariants.{Begin, Deliver, Wake, Lost, Restart}
use Rattle.lynx_entry.specs.declared.event.Outcome.TheVariants.{LostNow, NotSent, NoServer, Restarted}
use Rattle.lynx_entry.specs.declared.message.Message.{Message}
use Rattle.lynx_entry.specs.declared.request.Request.{Request}
use Rattle.lynx_turn.specs.Held.{least_of}
use Rattle.lynx_rules.specs.Answers.{answer}
use Rattle.lynx_rules.specs.Deliveries.{Delivers, delivery, same_hop}
use Rattle.lynx_world.specs.Legal.{IsLegal, IsSent, MayFollow}
use Rattle.lynx_world.specs.Placed.{Placed}
use Rattle.lynx_world.specs.Steps.{Step, after_delivery, begin_at, deliver_sent, deliver_to, destination_of, held_at, is_full_answer, list_with, sent_message, stands_now, stays, step, wake_at, world_after}
use Rattle.lynx_world.specs.Worlds.{WorldState, history_of, new_world}
use Rattle.lynx_world.proofs.HeldSent.{delivery_holds, least_of_holds}
use Rattle.lynx_world.proofs.LegalSteps.{begun-may_follow, ran-may_follow, sent_found}
use Rattle.lynx_world.proofs.Servers.{all_sent_with, legal_with}

-- the list is legal, and what each server holds was sent
pub record IsSound (world : WorldState) : Type 0 where
  pub legal : IsLegal world.set world.list
  pub sent : (server : ℕ) → All (IsSent world.set world.list) (held_at world server)

-- what each server holds after one of them holds something else
held_set : (P : List Message → Type 0) (held : List (List Message)) (server other : ℕ) (now : List Message) → P now → P (unwrap_or (slice_get held other) []) →
    P (unwrap_or (slice_get (slice_set held server now) other) [])
held_set P [] server other now its was = was
held_set P (first ∷ held) zero zero now its was = its
held_set P (first ∷ held) zero (suc other) now its was = was
held_set P (first ∷ held) (suc server) zero now its was = was
held_set P (first ∷ held) (suc server) (suc other) now its was = held_set P held server other now its was

held_none : (P : List Message → Type 0) (count server : ℕ) → P [] → P (unwrap_or (slice_get (replicate count []) server) [])
held_none P zero server none = none
held_none P (suc count) zero none = none
held_none P (suc count) (suc server) none = held_none P count server none

-- an entry is added, or none
sound_with : (world : WorldState) (server : ℕ) (added : Option Entry) → IsSound world →
    IfSome added (λ entry. MayFollow world.set world.list (record { server = server; entry = entry })) →
    IsSound (record world { list = list_with server added world.list })
sound_with world server added sound may = record {
  legal = legal_with world.set server added world.list sound.legal may;
  sent = λ other. all_sent_with world.set server added world.list (held_at world other) (sound.sent other);
}

-- .. and the server holds this then
sound_held : (world : WorldState) (server : ℕ) (held : List Message) → IsSound world → All (IsSent world.set world.list) held →
    IsSound (record world { held = slice_set world.held server held })
sound_held world server held sound sent = record {
  legal = sound.legal;
  sent = λ other. held_set (All (IsSent world.set world.list)) world.held server other held sent (sound.sent other);
}

-- a server does with a message that was sent what its definition says, and holds this then
sound_delivery : (world : WorldState) (server room : ℕ) (message : Message) (held : List Message) → IsSound world → IsSent world.set world.list message →
    nat_lt server world.set.servers ≡ true →
    All (IsSent world.set (list_with server (delivery world.set server room (history_of server world.list) (held_at world server) message).added world.list)) held →
    IsSound (after_delivery world server (delivery world.set server room (history_of server world.list) (held_at world server) message) held)
sound_delivery world server room message held sound sent within all_sent =
    let delivers : Delivers = delivery world.set server room (history_of server world.list) (held_at world server) message in
    sound_held (record world { list = list_with server delivers.added world.list }) server held
    (sound_with world server delivers.added sound
    (ran-may_follow world.set world.list server room (held_at world server) message delivers.added sent (ltb-true _ _ within) refl))
    all_sent

-- what is held behind a delivery was sent
held_sent : (world : WorldState) (server room : ℕ) (message : Message) → IsSound world → IsSent world.set world.list message →
    All (IsSent world.set (list_with server (delivery world.set server room (history_of server world.list) (held_at world server) message).added world.list))
    (delivery world.set server room (history_of server world.list) (held_at world server) message).held
held_sent world server room message sound sent =
    let delivers : Delivers = delivery world.set server room (history_of server world.list) (held_at world server) message in
    all_sent_with world.set server delivers.added world.list delivers.held
    (delivery_holds (IsSent world.set world.list) world.set server room (history_of server world.list) (held_at world server) message (sound.sent server) sent)

begun : (room : ℕ) (world : WorldState) (server : ℕ) (request : Request) (seen : ℕ) → IsSound world → (within : Bool) → nat_lt server world.set.servers ≡ within →
    IsSound (if within then begin_at world server (answer world.set server (history_of server world.list) request seen) else stays world NoServer).world
begun room world server request seen sound true within =
    sound_with world server (answer world.set server (history_of server world.list) request seen).added sound
    (begun-may_follow world.set world.list server request seen (answer world.set server (history_of server world.list) request seen) sound.legal (ltb-true _ _ within) refl)
begun room world server request seen sound false within = sound

delivered_to : (room : ℕ) (world : WorldState) (server : ℕ) (chain : ChainId) (hop : ℕ) (message : Message) → IsSound world → IsSent world.set world.list message →
    (within : Bool) → nat_lt server world.set.servers ≡ within →
    IsSound (if within then deliver_to room world server chain hop message else stays world NoServer).world
delivered_to room world server chain hop message sound sent true within =
    sound_delivery world server room message (delivery world.set server room (history_of server world.list) (held_at world server) message).held sound sent within
    (held_sent world server room message sound sent)
delivered_to room world server chain hop message sound sent false within = sound

delivered : (room : ℕ) (world : WorldState) (chain : ChainId) (hop : ℕ) → IsSound world → (found : Option Message) → sent_message world.set chain hop world.list ≡ found →
    IsSound (deliver_sent room world chain hop found).world
delivered room world chain hop sound None is = sound
delivered room world chain hop sound (Some message) is =
    delivered_to room world (destination_of world.set message) chain hop message sound (sent_found world.set world.list chain hop message is)
    (nat_lt (destination_of world.set message) world.set.servers) refl

-- what is held on after a waking
held_on : (P : Message → Type 0) (message : Message) (delivers : Delivers) (is_full : Bool) → All P delivers.held →
    All P (if is_full then delivers.held else filter (λ other. not (same_hop other message)) delivers.held)
held_on P message delivers true each = each
held_on P message delivers false each = All-filter (λ other. not (same_hop other message)) P delivers.held each

-- the message that a server wakes was sent
least_sent : (world : WorldState) (server : ℕ) (message : Message) → IsSound world →
    least_of (filter (stands_now world.set server (history_of server world.list)) (held_at world server)) ≡ Some message → IsSent world.set world.list message
least_sent world server message sound is =
    least_of_holds (IsSent world.set world.list) (filter (stands_now world.set server (history_of server world.list)) (held_at world server)) message
    (All-filter (stands_now world.set server (history_of server world.list)) (IsSent world.set world.list) (held_at world server) (sound.sent server)) is

woken_at : (room : ℕ) (world : WorldState) (server : ℕ) → IsSound world → nat_lt server world.set.servers ≡ true → (least : Option Message) →
    least_of (filter (stands_now world.set server (history_of server world.list)) (held_at world server)) ≡ least →
    IsSound (wake_at room world server least).world
woken_at room world server sound within None is = sound
woken_at room world server sound within (Some message) is =
    let sent = least_sent world server message sound is in
    let delivers : Delivers = delivery world.set server room (history_of server world.list) (held_at world server) message in
    sound_delivery world server room message (if is_full_answer delivers.delivered then delivers.held else filter (λ other. not (same_hop other message)) delivers.held) sound sent within
    (held_on (IsSent world.set (list_with server delivers.added world.list)) message delivers (is_full_answer delivers.delivered) (held_sent world server room message sound sent))

woken : (room : ℕ) (world : WorldState) (server : ℕ) → IsSound world → (within : Bool) → nat_lt server world.set.servers ≡ within →
    IsSound (if within
    then wake_at room world server (least_of (filter (stands_now world.set server (history_of server world.list)) (held_at world server)))
    else stays world NoServer).world
woken room world server sound true within = woken_at room world server sound within _ refl
woken room world server sound false within = sound

lost : (world : WorldState) (chain : ChainId) (hop : ℕ) (sent : Bool) → IsSound world →
    IsSound (if sent then stays world (LostNow chain hop) else stays world (NotSent chain hop)).world
lost world chain hop true sound = sound
lost world chain hop false sound = sound

restarted : (world : WorldState) (server : ℕ) (within : Bool) → IsSound world →
    IsSound (if within then record { outcome = Restarted server; world = record world { held = slice_set world.held server [] } } else stays world NoServer).world
restarted world server true sound = sound_held world server [] sound (All-nil _)
restarted world server false sound = sound

pub sound_step : (room : ℕ) (world : WorldState) (event : Event) → IsSound world → IsSound (step room world event).world
sound_step room world (Begin server request seen) sound = begun room world server request seen sound (nat_lt server world.set.servers) refl
sound_step room world (Deliver chain hop) sound = delivered room world chain hop sound (sent_message world.set chain hop world.list) refl
sound_step room world (Wake server) sound = woken room world server sound (nat_lt server world.set.servers) refl
sound_step room world (Lost chain hop) sound = lost world chain hop (is_some (sent_message world.set chain hop world.list)) sound
sound_step room world (Restart server) sound = restarted world server (nat_lt server world.set.servers) sound

sound_after : (world : WorldState) (events : List Event) → IsSound world → IsSound (world_after world events)
sound_after world [] sound = sound
sound_after world (event ∷ events) sound = sound_after (step MAX_HELD world event).world events (sound_step MAX_HELD world event sound)

pub sound_new : (set : Set) → IsSound (new_world set)
sound_new set = record {
  legal = tt;
  sent = λ server. held_none (All (IsSent set [])) set.servers server (All-nil _);
}

-- the set of a world stays
set_with : (world : WorldState) (b : Bool) (one other : Step) → one.world.set ≡ world.set → other.world.set ≡ world.set → (if b then one else other).world.set ≡ world.set
set_with world true one other first second = first
set_with world false one other first second = second

pub set_step : (room : ℕ) (world : WorldState) (event : Event) → (step room world event).world.set ≡ world.set
set_step room world (Begin server request seen) = set_with world _ _ _ refl refl
set_step room world (Deliver chain hop) = by (sent_message world.set chain hop world.list)
  where
    by : (found : Option Message) → (deliver_sent room world chain hop found).world.set ≡ world.set
    by None = refl
    by (Some message) = set_with world _ _ _ refl refl
set_step room world (Wake server) = set_with world _ _ _ (by (least_of (filter (stands_now world.set server (history_of server world.list)) (held_at world server)))) refl
  where
    by : (least : Option Message) → (wake_at room world server least).world.set ≡ world.set
    by None = refl
    by (Some message) = refl
set_step room world (Lost chain hop) = set_with world _ _ _ refl refl
set_step room world (Restart server) = set_with world _ _ _ refl refl

pub set_after : (world : WorldState) (events : List Event) → (world_after world events).set ≡ world.set
set_after world [] = refl
set_after world (event ∷ events) = set_after (step MAX_HELD world event).world events ∙ set_step MAX_HELD world event

pub events_legal : (set : Set) (events : List Event) → IsLegal set (world_after (new_world set) events).list
events_legal set events =
    subst (λ s. IsLegal s (world_after (new_world set) events).list) (set_after (new_world set) events) (sound_after (new_world set) events (sound_new set)).legal

-- ---- what a step adds

-- the list has grown by what a server added, which may follow, or by nothing
pub record HasStepped (world : WorldState) (list : List Placed) : Type 0 where
  pub server : ℕ
  pub added : Option Entry
  pub list_is : list ≡ list_with server added world.list
  pub may : IfSome added (λ entry. MayFollow world.set world.list (record { server = server; entry = entry }))

stepped_not : (world : WorldState) → HasStepped world world.list
stepped_not world = record { server = 0; added = None; list_is = refl; may = tt }

stepped_delivery : (room : ℕ) (world : WorldState) (server : ℕ) (message : Message) → IsSent world.set world.list message → nat_lt server world.set.servers ≡ true →
    HasStepped world (list_with server (delivery world.set server room (history_of server world.list) (held_at world server) message).added world.list)
stepped_delivery room world server message sent within =
    let delivers : Delivers = delivery world.set server room (history_of server world.list) (held_at world server) message in
    record {
      server = server;
      added = delivers.added;
      list_is = refl;
      may = ran-may_follow world.set world.list server room (held_at world server) message delivers.added sent (ltb-true _ _ within) refl;
    }

stepped_begin : (world : WorldState) (server : ℕ) (request : Request) (seen : ℕ) → IsSound world → (within : Bool) → nat_lt server world.set.servers ≡ within →
    HasStepped world (if within then begin_at world server (answer world.set server (history_of server world.list) request seen) else stays world NoServer).world.list
stepped_begin world server request seen sound true within = record {
  server = server;
  added = (answer world.set server (history_of server world.list) request seen).added;
  list_is = refl;
  may = begun-may_follow world.set world.list server request seen (answer world.set server (history_of server world.list) request seen) sound.legal (ltb-true _ _ within) refl;
}
stepped_begin world server request seen sound false within = stepped_not world

stepped_to : (room : ℕ) (world : WorldState) (server : ℕ) (chain : ChainId) (hop : ℕ) (message : Message) → IsSent world.set world.list message →
    (within : Bool) → nat_lt server world.set.servers ≡ within →
    HasStepped world (if within then deliver_to room world server chain hop message else stays world NoServer).world.list
stepped_to room world server chain hop message sent true within = stepped_delivery room world server message sent within
stepped_to room world server chain hop message sent false within = stepped_not world

stepped_sent : (room : ℕ) (world : WorldState) (chain : ChainId) (hop : ℕ) → (found : Option Message) → sent_message world.set chain hop world.list ≡ found →
    HasStepped world (deliver_sent room world chain hop found).world.list
stepped_sent room world chain hop None is = stepped_not world
stepped_sent room world chain hop (Some message) is =
    stepped_to room world (destination_of world.set message) chain hop message (sent_found world.set world.list chain hop message is)
    (nat_lt (destination_of world.set message) world.set.servers) refl

stepped_woken : (room : ℕ) (world : WorldState) (server : ℕ) → IsSound world → nat_lt server world.set.servers ≡ true → (least : Option Message) →
    least_of (filter (stands_now world.set server (history_of server world.list)) (held_at world server)) ≡ least →
    HasStepped world (wake_at room world server least).world.list
stepped_woken room world server sound within None is = stepped_not world
stepped_woken room world server sound within (Some message) is = stepped_delivery room world server message (least_sent world server message sound is) within

stepped_wake : (room : ℕ) (world : WorldState) (server : ℕ) → IsSound world → (within : Bool) → nat_lt server world.set.servers ≡ within →
    HasStepped world (if within
    then wake_at room world server (least_of (filter (stands_now world.set server (history_of server world.list)) (held_at world server)))
    else stays world NoServer).world.list
stepped_wake room world server sound true within = stepped_woken room world server sound within _ refl
stepped_wake room world server sound false within = stepped_not world

stepped_lost : (world : WorldState) (chain : ChainId) (hop : ℕ) (sent : Bool) → HasStepped world (if sent then stays world (LostNow chain hop) else stays world (NotSent chain hop)).world.list
stepped_lost world chain hop true = stepped_not world
stepped_lost world chain hop false = stepped_not world

stepped_restart : (world : WorldState) (server : ℕ) (within : Bool) →
    HasStepped world (if within then record { outcome = Restarted server; world = record world { held = slice_set world.held server [] } } else stays world NoServer).world.list
stepped_restart world server true = stepped_not world
stepped_restart world server false = stepped_not world

pub stepped : (room : ℕ) (world : WorldState) (event : Event) → IsSound world → HasStepped world (step room world event).world.list
stepped room world (Begin server request seen) sound = stepped_begin world server request seen sound (nat_lt server world.set.servers) refl
stepped room world (Deliver chain hop) sound = stepped_sent room world chain hop (sent_message world.set chain hop world.list) refl
stepped room world (Wake server) sound = stepped_wake room world server sound (nat_lt server world.set.servers) refl
stepped room world (Lost chain hop) sound = stepped_lost world chain hop (is_some (sent_message world.set chain hop world.list))
stepped room world (Restart server) sound = stepped_restart world server (nat_lt server world.set.servers)
