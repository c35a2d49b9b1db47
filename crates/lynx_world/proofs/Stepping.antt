-- A call of one server is the step of the world.
use Rattle.std.proofs.Common.{◌≡◌, ◌==◌, ℕ, Bool, true, false, not, cond, nat_lt, if◌then◌else◌, length, filter, List, [], ◌∷◌, ◌++◌, slice_get, slice_set, get_or, Option, Some, None, IfSome, All, unwrap_or, Result, Ok, Err, OnErr, refl, sym, ap, ◌∙◌, subst, arith}
use Rattle.std.specs.Prelude.{option_map}
use Rattle.std.proofs.lemmas.Bool.{le-ltb, ltb-true}
use Rattle.std.proofs.lemmas.List.{append-nil}
use Rattle.std.proofs.lemmas.List.Elements.{All-filter, All-nil}
use Rattle.std.proofs.lemmas.Option.{slice_get-map, slice_get_read}
use Rattle.lynx_names.specs.declared.limits.TheConstants.{MAX_HELD}
use Rattle.lynx_names.specs.declared.chain.ChainId.{ChainId}
use Rattle.lynx_set.specs.Set.{Set}
use Rattle.lynx_entry.specs.declared.answer.Answer.{Answer}
use Rattle.lynx_entry.specs.declared.answer.Delivered.{Delivered}
use Rattle.lynx_entry.specs.declared.answer.Delivered.TheVariants as deliveries
use Rattle.lynx_entry.specs.declared.message.Message.{Message}
use Rattle.lynx_entry.specs.declared.request.Request.{Request}
use Rattle.lynx_entry.specs.declared.event.Event.{Event}
use Rattle.lynx_entry.specs.declared.event.Event.TheVariants.{Begin, Deliver, Wake, Restart}
use Rattle.lynx_entry.specs.declared.event.Outcome.{Outcome}
use Rattle.lynx_entry.specs.declared.event.Outcome.TheVariants.{Answered, Delivered as DeliveredNow, Woken as WokenNow, Idle, Restarted, NoServer}
use Rattle.lynx_entry.specs.Entry.{History}
use Rattle.lynx_keep.specs.Kept.{KeptState}
use Rattle.lynx_turn.specs.Held.{least_of}
use Rattle.lynx_rules.specs.Answers.{Begins, answer}
use Rattle.lynx_rules.specs.Deliveries.{Delivers, delivery, same_hop}
use Rattle.lynx_rules.specs.Lawful.{number_at}
use Rattle.lynx_rules.specs.Turns.{turn_of}
use Rattle.lynx_server.specs.inner.Repeating.{HasAdded}
use Rattle.lynx_server.specs.Serving.{Serving, delivery_of, is_put_off, woken_of}
use Rattle.lynx_server.specs.declared.server.Woken.{Woken}
use Rattle.lynx_server.proofs.Delivering.{IsPlain, delivery-plain}
use Rattle.lynx_world.specs.declared.added.Added.{Added}
use Rattle.lynx_world.specs.Placed.{Placed}
use Rattle.lynx_world.specs.Legal.{IsSent, MayFollow}
use Rattle.lynx_world.specs.Servers.{AreServers, Servers, held_of, list_of}
use Rattle.lynx_world.specs.inner.Servers.{waking}
use Rattle.lynx_world.specs.inner.Calls.{HasBegun, HasDelivered, WokeNone, HasWoken, HasWokenOne, held_then, noted}
use Rattle.lynx_world.specs.Steps.{begin_at, deliver_sent, deliver_to, destination_of, held_at, is_full_answer, sent_message, stands_now, stays, step, wake_at, list_with}
use Rattle.lynx_world.specs.Worlds.{WorldState, history_of}
use Rattle.lynx_world.proofs.HeldSent.{delivery_holds, least_of_holds}
use Rattle.lynx_world.proofs.LegalSteps.{begun-may_follow, ran-may_follow, sent_found}
use Rattle.lynx_world.proofs.Servers.{all_sent_with, has_moved, set_same}

-- a world of these servers
abbrev pub world_of : Set → Servers → List Added → WorldState
world_of set servers order = record { set = set; list = list_of servers order; held = held_of servers }

-- a call of a server that is a step of its world
pub record IsStep (set : Set) (servers : Servers) (order : List Added) (event : Event) (outcome : Outcome) (after : Servers) (later : List Added) : Type 0 where
  pub are : AreServers set after later
  pub is : record { outcome = outcome; world = world_of set after later } ≡ step MAX_HELD (world_of set servers order) event

-- what a server holds
held_there : (servers : Servers) (server : ℕ) (old : Serving KeptState) → slice_get servers server ≡ Some old → slice_get (held_of servers) server ≡ Some old.held
held_there servers server old there = slice_get-map (λ (h : Serving KeptState). h.held) servers server ∙ ap (option_map (λ (h : Serving KeptState). h.held)) there

held_is : (servers : Servers) (server : ℕ) (old : Serving KeptState) → slice_get servers server ≡ Some old → unwrap_or (slice_get (held_of servers) server) [] ≡ old.held
held_is servers server old there = ap (λ o. unwrap_or o []) (held_there servers server old there)

world_is : (set : Set) (a b : List Placed) (x y : List (List Message)) → a ≡ b → x ≡ y →
    (let left : WorldState = record { set = set; list = a; held = x } in left) ≡ record { set = set; list = b; held = y }
world_is set a b x y same alike = λ i. record { set = set; list = same i; held = alike i }

-- a call that changes nothing
pub record IsStill (set : Set) (servers : Servers) (order : List Added) (after : Servers) : Type 0 where
  pub are : AreServers set after order
  pub is : world_of set after order ≡ world_of set servers order

pub still : (set : Set) (servers : Servers) (order : List Added) (server : ℕ) (old new : Serving KeptState) → AreServers set servers order →
    slice_get servers server ≡ Some old → HasAdded old None old.held new → IsStill set servers order (slice_set servers server new)
still set servers order server old new are there goes =
    let moved = has_moved set servers order server old new None old.held are there goes tt (are.each server old there).sent in
    let nothing : noted server (length old.history) (length new.history) ≡ [] =
    ap (λ (h : History). noted server (length old.history) (length h)) goes.history_is
    ∙ ap (λ b. cond b (record { server = server; place = length old.history } ∷ []) []) (le-ltb (length old.history) (length old.history) (omega arith)) in
    let same : order ++ noted server (length old.history) (length new.history) ≡ order = ap (λ more. order ++ more) nothing ∙ append-nil order in
    let ns = slice_set servers server new in
    record {
      are = subst (AreServers set ns) same moved.are;
      is = world_is set _ _ _ _ (ap (list_of ns) (sym same) ∙ moved.list_is)
          (moved.held_is ∙ set_same (held_of servers) server old.held (held_there servers server old there));
    }

-- a begin
pub begun : (set : Set) (servers : Servers) (order : List Added) (server : ℕ) (request : Request) (seen : ℕ) (given : Answer) (old new : Serving KeptState) →
    AreServers set servers order → slice_get servers server ≡ Some old → nat_lt server set.servers ≡ true → HasBegun old request seen given new →
    IsStep set servers order (Begin server request seen) (Answered given) (slice_set servers server new)
    (order ++ noted server (length old.history) (length new.history))
begun set servers order server request seen given old new are there within is =
    let list = list_of servers order in
    let was = are.each server old there in
    let begins = answer set server (history_of server list) request seen in
    let same : answer old.set old.server old.history request seen ≡ begins =
    ap (λ s. answer s old.server old.history request seen) was.set_is ∙ ap (λ n. answer set n old.history request seen) was.server_is
    ∙ ap (λ h. answer set server h request seen) was.history_is in
    let added = (answer old.set old.server old.history request seen).added in
    let moved = has_moved set servers order server old new added old.held are there is.goes
    (begun-may_follow set list server request seen (answer old.set old.server old.history request seen) are.is_legal (ltb-true _ _ within) same)
    (all_sent_with set server added list old.held was.sent) in
    record {
      are = moved.are;
      is = (λ i. record {
        outcome = Answered ((is.answer_is ∙ ap (λ (b : Begins). b.answer) same) i);
        world = world_is set _ _ _ _ (moved.list_is ∙ ap (λ (b : Begins). list_with server b.added list) same)
            (moved.held_is ∙ set_same (held_of servers) server old.held (held_there servers server old there)) i;
      })
          ∙ sym (ap (λ b. if b then begin_at (world_of set servers order) server begins else stays (world_of set servers order) NoServer) within);
    }

-- what a server's own delivery is in its world
delivery_is : (set : Set) (servers : Servers) (order : List Added) (server : ℕ) (old : Serving KeptState) (message : Message) → AreServers set servers order →
    slice_get servers server ≡ Some old →
    delivery_of old message ≡ delivery set server MAX_HELD (history_of server (list_of servers order)) (held_at (world_of set servers order) server) message
delivery_is set servers order server old message are there =
    let was = are.each server old there in
    ap (λ s. delivery s old.server MAX_HELD old.history old.held message) was.set_is
    ∙ ap (λ n. delivery set n MAX_HELD old.history old.held message) was.server_is
    ∙ ap (λ h. delivery set server MAX_HELD h old.held message) was.history_is
    ∙ ap (λ h. delivery set server MAX_HELD (history_of server (list_of servers order)) h message) (sym (held_is servers server old there))

-- the entry that a delivery adds may follow
may_follow : (set : Set) (servers : Servers) (order : List Added) (server : ℕ) (old : Serving KeptState) (message : Message) → AreServers set servers order →
    slice_get servers server ≡ Some old → nat_lt server set.servers ≡ true → IsSent set (list_of servers order) message →
    IfSome (delivery_of old message).added (λ entry. MayFollow set (list_of servers order) (record { server = server; entry = entry }))
may_follow set servers order server old message are there within sent =
    ran-may_follow set (list_of servers order) server MAX_HELD (held_at (world_of set servers order) server) message (delivery_of old message).added sent (ltb-true _ _ within)
    (ap (λ (d : Delivers). d.added) (delivery_is set servers order server old message are there))

-- what is held after it was sent
holds_sent : (set : Set) (servers : Servers) (order : List Added) (server : ℕ) (old : Serving KeptState) (message : Message) → AreServers set servers order →
    slice_get servers server ≡ Some old → IsSent set (list_of servers order) message →
    All (IsSent set (list_with server (delivery_of old message).added (list_of servers order))) (delivery_of old message).held
holds_sent set servers order server old message are there sent =
    all_sent_with set server (delivery_of old message).added (list_of servers order) (delivery_of old message).held
    (delivery_holds (IsSent set (list_of servers order)) old.set old.server MAX_HELD old.history old.held message (are.each server old there).sent sent)

-- a delivery of a message that was sent
pub delivered : (set : Set) (servers : Servers) (order : List Added) (server : ℕ) (chain : ChainId) (hop : ℕ) (message : Message) (given : Delivered) (old new : Serving KeptState) →
    AreServers set servers order → slice_get servers server ≡ Some old → nat_lt server set.servers ≡ true → HasDelivered old message given new →
    sent_message set chain hop (list_of servers order) ≡ Some message → server ≡ destination_of set message →
    IsStep set servers order (Deliver chain hop) (DeliveredNow chain hop given) (slice_set servers server new)
    (order ++ noted server (length old.history) (length new.history))
delivered set servers order server chain hop message given old new are there within is found for_it =
    let list = list_of servers order in
    let world = world_of set servers order in
    let sent = sent_found set list chain hop message found in
    let delivers = delivery set server MAX_HELD (history_of server list) (held_at world server) message in
    let same = delivery_is set servers order server old message are there in
    let moved = has_moved set servers order server old new (delivery_of old message).added (delivery_of old message).held are there is.goes
    (may_follow set servers order server old message are there within sent) (holds_sent set servers order server old message are there sent) in
    record {
      are = moved.are;
      is = (λ i. record {
        outcome = DeliveredNow chain hop ((is.delivered_is ∙ ap (λ (d : Delivers). d.delivered) same) i);
        world = world_is set _ _ _ _ (moved.list_is ∙ ap (λ (d : Delivers). list_with server d.added list) same)
            (moved.held_is ∙ ap (λ (d : Delivers). slice_set (held_of servers) server d.held) same) i;
      })
          ∙ sym (ap (deliver_sent MAX_HELD world chain hop) found
          ∙ ap (λ n. if nat_lt n set.servers then deliver_to MAX_HELD world n chain hop message else stays world NoServer) (sym for_it)
          ∙ ap (λ b. if b then deliver_to MAX_HELD world server chain hop message else stays world NoServer) within);
    }

-- the message that a server wakes is the one of the world
woken_is : (set : Set) (servers : Servers) (order : List Added) (server : ℕ) (old : Serving KeptState) → AreServers set servers order → slice_get servers server ≡ Some old →
    woken_of old ≡ least_of (filter (stands_now set server (history_of server (list_of servers order))) (held_at (world_of set servers order) server))
woken_is set servers order server old are there =
    let was = are.each server old there in
    let now : Set → ℕ → History → Message → Bool = λ s n h message. unwrap_or (number_at message.numbers n) 0 == turn_of s n h message.chain.origin in
    ap (λ s. least_of (filter (now s old.server old.history) old.held)) was.set_is
    ∙ ap (λ n. least_of (filter (now set n old.history) old.held)) was.server_is
    ∙ ap (λ h. least_of (filter (now set server h) old.held)) was.history_is
    ∙ ap (λ h. least_of (filter (now set server (history_of server (list_of servers order))) h)) (sym (held_is servers server old there))

-- a waking of none
slept : (set : Set) (servers : Servers) (order : List Added) (server : ℕ) (old new : Serving KeptState) →
    AreServers set servers order → slice_get servers server ≡ Some old → nat_lt server set.servers ≡ true → WokeNone old new →
    IsStep set servers order (Wake server) (Idle server) (slice_set servers server new)
    (order ++ noted server (length old.history) (length new.history))
slept set servers order server old new are there within is =
    let world = world_of set servers order in
    let moved = has_moved set servers order server old new None old.held are there is.goes tt (are.each server old there).sent in
    let least = least_of (filter (stands_now set server (history_of server (list_of servers order))) (held_at world server)) in
    record {
      are = moved.are;
      is = (λ i. record {
        outcome = Idle server;
        world = world_is set _ _ _ _ moved.list_is (moved.held_is ∙ set_same (held_of servers) server old.held (held_there servers server old there)) i;
      })
          ∙ sym (ap (λ b. if b then wake_at MAX_HELD world server least else stays world NoServer) within
          ∙ ap (wake_at MAX_HELD world server) (sym (woken_is set servers order server old are there) ∙ is.none));
    }

-- a delivery is put off where its server is full
put_off : (given : Delivered) → IsPlain given → is_put_off given ≡ is_full_answer given
put_off (deliveries.Done stamp results next) plain = refl
put_off (deliveries.Repeat stamp results next) plain = refl
put_off deliveries.Held plain = refl
put_off deliveries.Dropped plain = refl
put_off deliveries.Malformed plain = refl
put_off deliveries.Full plain = refl
put_off deliveries.Stopped plain = absurd plain
put_off deliveries.Memory plain = absurd plain

-- what is held after a waking
abbrev pub held_on : Message → Delivers → Bool → List Message
held_on message delivers b = if b then delivers.held else filter (λ other. not (same_hop other message)) delivers.held

held_on_all : (P : Message → Type 0) (message : Message) (delivers : Delivers) (b : Bool) → All P delivers.held → All P (held_on message delivers b)
held_on_all P message delivers true each = each
held_on_all P message delivers false each = All-filter (λ other. not (same_hop other message)) P delivers.held each

-- a waking of a message
woken : (set : Set) (servers : Servers) (order : List Added) (server : ℕ) (one : Woken) (old new : Serving KeptState) →
    AreServers set servers order → slice_get servers server ≡ Some old → nat_lt server set.servers ≡ true → HasWokenOne old one new →
    IsStep set servers order (Wake server) (WokenNow one.chain one.hop one.delivered) (slice_set servers server new)
    (order ++ noted server (length old.history) (length new.history))
woken set servers order server one old new are there within is =
    let list = list_of servers order in
    let world = world_of set servers order in
    let message = is.message in
    let was = are.each server old there in
    let sent : IsSent set list message =
    least_of_holds (IsSent set list) _ message
    (All-filter (λ m. unwrap_or (number_at m.numbers old.server) 0 == turn_of old.set old.server old.history m.chain.origin) (IsSent set list) old.held was.sent) is.message_is in
    let delivers = delivery set server MAX_HELD (history_of server list) (held_at world server) message in
    let same = delivery_is set servers order server old message are there in
    let plain : IsPlain one.delivered = subst IsPlain (sym is.delivered_is) (delivery-plain old.set old.server MAX_HELD old.history old.held message) in
    let full : is_put_off one.delivered ≡ is_full_answer delivers.delivered =
    put_off one.delivered plain ∙ ap is_full_answer (is.delivered_is ∙ ap (λ (d : Delivers). d.delivered) same) in
    let holds = holds_sent set servers order server old message are there sent in
    let moved = has_moved set servers order server old new (delivery_of old message).added (held_then old message one.delivered) are there is.goes
    (may_follow set servers order server old message are there within sent)
    (held_on_all (IsSent set (list_with server (delivery_of old message).added list)) message (delivery_of old message) (is_put_off one.delivered) holds) in
    let least = least_of (filter (stands_now set server (history_of server list)) (held_at world server)) in
    record {
      are = moved.are;
      is = (λ i. record {
        outcome = WokenNow (is.chain_is i) (is.hop_is i) ((is.delivered_is ∙ ap (λ (d : Delivers). d.delivered) same) i);
        world = world_is set _ _ _ _ (moved.list_is ∙ ap (λ (d : Delivers). list_with server d.added list) same)
            (moved.held_is ∙ ap (λ b. slice_set (held_of servers) server (held_on message (delivery_of old message) b)) full
            ∙ ap (λ (d : Delivers). slice_set (held_of servers) server (held_on message d (is_full_answer delivers.delivered))) same) i;
      })
          ∙ sym (ap (λ b. if b then wake_at MAX_HELD world server least else stays world NoServer) within
          ∙ ap (wake_at MAX_HELD world server) (sym (woken_is set servers order server old are there) ∙ is.message_is));
    }

-- a waking, of a message or of none
pub wakes : (set : Set) (servers : Servers) (order : List Added) (server : ℕ) (one : Option Woken) (old new : Serving KeptState) →
    AreServers set servers order → slice_get servers server ≡ Some old → nat_lt server set.servers ≡ true → HasWoken old one new →
    IsStep set servers order (Wake server) (waking server one) (slice_set servers server new)
    (order ++ noted server (length old.history) (length new.history))
wakes set servers order server None old new are there within is = slept set servers order server old new are there within is
wakes set servers order server (Some one) old new are there within is = woken set servers order server one old new are there within is

-- a restart
pub restarted : (set : Set) (servers : Servers) (order : List Added) (server : ℕ) (old new : Serving KeptState) →
    AreServers set servers order → slice_get servers server ≡ Some old → nat_lt server set.servers ≡ true → HasAdded old None [] new →
    IsStep set servers order (Restart server) (Restarted server) (slice_set servers server new) order
restarted set servers order server old new are there within goes =
    let world = world_of set servers order in
    let ns = slice_set servers server new in
    let moved = has_moved set servers order server old new None [] are there goes tt (All-nil (IsSent set (list_of servers order))) in
    let nothing : noted server (length old.history) (length new.history) ≡ [] =
    ap (λ (h : History). noted server (length old.history) (length h)) goes.history_is
    ∙ ap (λ b. cond b (record { server = server; place = length old.history } ∷ []) []) (le-ltb (length old.history) (length old.history) (omega arith)) in
    let same : order ++ noted server (length old.history) (length new.history) ≡ order = ap (λ more. order ++ more) nothing ∙ append-nil order in
    record {
      are = subst (AreServers set ns) same moved.are;
      is = (λ i. record {
        outcome = Restarted server;
        world = world_is set _ _ _ _ (ap (list_of ns) (sym same) ∙ moved.list_is) moved.held_is i;
      })
          ∙ sym (ap (λ b. if b then record { outcome = Restarted server; world = record world { held = slice_set world.held server [] } } else stays world NoServer) within);
    }

-- the server that is called is one of the world
pub server_found : (set : Set) (servers : Servers) (order : List Added) (index server : ℕ) (old : Serving KeptState) → AreServers set servers order →
    index ≡ server → nat_lt server set.servers ≡ true → old ≡ get_or servers index old → slice_get servers server ≡ Some old
server_found set servers order index server old are same within is =
    let many = are.many in
    let below = ltb-true _ _ within in
    slice_get_read servers (length servers) server old refl (omega arith) (is ∙ ap (λ n. get_or servers n old) same)

-- the step of a call, told by what the code has
pub taken : (set : Set) (servers : Servers) (order : List Added) (event : Event) (outcome : Outcome) (index server : ℕ) (new : Serving KeptState) (later more : List Added) →
    IsStep set servers order event outcome (slice_set servers server new) later → index ≡ server → more ≡ later →
    IsStep set servers order event outcome (slice_set servers index new) more
taken set servers order event outcome index server new later more is same alike =
    subst (IsStep set servers order event outcome (slice_set servers index new)) (sym alike)
    (subst (λ n. IsStep set servers order event outcome (slice_set servers n new) later) (sym same) is)

pub stilled : (set : Set) (servers : Servers) (order more : List Added) (index server : ℕ) (new : Serving KeptState) →
    IsStill set servers order (slice_set servers server new) → index ≡ server → more ≡ order →
    AreServers set (slice_set servers index new) more × (world_of set (slice_set servers index new) more ≡ world_of set servers order)
stilled set servers order more index server new is same alike =
    subst (λ o. AreServers set (slice_set servers index new) o × (world_of set (slice_set servers index new) o ≡ world_of set servers order)) (sym alike)
    (subst (λ n. AreServers set (slice_set servers n new) order × (world_of set (slice_set servers n new) order ≡ world_of set servers order)) (sym same) (is.are, is.is))

-- what is so is so at an error
pub at_error : {A E : Type 0} (result : Result A E) (P : Type 0) → P → OnErr result P
at_error (Ok done) P is = tt
at_error (Err fault) P is = is
