-- A message that was sent is never answered Malformed.
use Rattle.std.proofs.Common.{◌≡◌, ◌≢◌, ℕ, ◌<◌, Bool, true, false, cond, not, ◌&&◌, ◌||◌, List, [], ◌∷◌, length, Option, Some, None, is_some, Ok, Err, nat_eq, nat_lt, option_map, refl, sym, ap, ◌∙◌, subst, arith}
use Rattle.std.specs.Prelude.{All, unwrap_or}
use Rattle.std.specs.List.{list_any}
use Rattle.std.proofs.lemmas.Bool.{cond_both, eqb-true, ltb-true}
use Rattle.std.proofs.lemmas.List.Elements.{All-head, All-tail}
use Rattle.lynx_names.specs.declared.limits.TheConstants.{MAX_SERVERS}
use Rattle.lynx_set.specs.declared.program.Hop.{Hop}
use Rattle.lynx_set.specs.Rules.{IsSet}
use Rattle.lynx_set.specs.Set.{Set}
use Rattle.lynx_hops.specs.Meaning.{HopOutcome, meaning}
use Rattle.lynx_entry.specs.declared.answer.Delivered.{Delivered}
use Rattle.lynx_entry.specs.declared.answer.Delivered.TheVariants.{Repeat, Malformed}
use Rattle.lynx_entry.specs.declared.entry.Entry.{Entry}
use Rattle.lynx_entry.specs.declared.entry.Entry.TheVariants.{Begun, Refused, Hop as HopRan}
use Rattle.lynx_entry.specs.declared.message.Message.{Message}
use Rattle.lynx_entry.specs.Entry.{History}
use Rattle.lynx_rules.specs.Turns.{turn_of}
use Rattle.lynx_rules.specs.Tables.{tables_of}
use Rattle.lynx_rules.specs.Messages.{next_message}
use Rattle.lynx_rules.specs.Lawful.{is_hop_of, hop_entry_of}
use Rattle.lynx_rules.specs.Answers.{is_full}
use Rattle.lynx_rules.specs.Deliveries.{Delivers, same_chain, same_hop, same_message, repeated, early, done_by, deliver_by_turn, deliver_new, delivery}
use Rattle.lynx_world.specs.Placed.{Placed}
use Rattle.lynx_world.specs.Worlds.{history_of}
use Rattle.lynx_world.specs.Legal.{IsSent, IsLegal}
use Rattle.lynx_world.specs.Steps.{destination_of}
use Rattle.lynx_world.proofs.HopsOf.{HasHop, has_hop, hop_at-is}
use Rattle.lynx_world.proofs.LaterHops.{set_fits, meaning-never_refuses}
use Rattle.lynx_world.proofs.Members.{IsIn, found_in, in_list}
use Rattle.lynx_world.proofs.Once.{both, same_name}
use Rattle.lynx_world.proofs.Sent.{message-sent}
use Rattle.lynx_world.proofs.Tests.{not_both}
use Rattle.lynx_world.proofs.Alike.{same_message-self}
use Rattle.lynx_world.proofs.Chains.{Descends, descends}
use Rattle.lynx_world.proofs.Unique.{one_message}
use Rattle.lynx_world.proofs.Numbers.{number_in}
use Rattle.lynx_world.proofs.Ran.{ran_before}
use Rattle.lynx_world.proofs.Formed.{sent_is_well_formed}

-- two sent messages for one hop pass the test of the same message
alike : (set : Set) (list : List Placed) (one other : Message) → IsLegal set list → IsSent set list one → IsSent set list other →
    same_hop one other ≡ true → same_message one other ≡ true
alike set list one other legal sent was hop =
    let tests = both (same_chain one.chain other.chain) (nat_eq one.hop other.hop) hop in
    let same = one_message set list one other legal sent was (same_name _ _ tests.0) (eqb-true _ _ tests.1) in
    ap (same_message one) (sym same) ∙ same_message-self one

-- an answer that isn't Malformed
abbrev pub IsGood : Delivers → Type 0
IsGood delivers = delivers.delivered ≢ Malformed

-- no other sent message for the hop is held
none_other : (set : Set) (list : List Placed) (held : List Message) (message : Message) → IsLegal set list → IsSent set list message →
    All (IsSent set list) held → list_any (λ other. same_hop other message && not (same_message other message)) held ≡ false
none_other set list [] message legal sent each = refl
none_other set list (other ∷ held) message legal sent each =
    by (same_hop other message) refl (none_other set list held message legal sent (All-tail (IsSent set list) other held each))
  where
    by : (b : Bool) → same_hop other message ≡ b → list_any (λ o. same_hop o message && not (same_message o message)) held ≡ false →
        ((b && not (same_message other message)) || list_any (λ o. same_hop o message && not (same_message o message)) held) ≡ false
    by false is rest = rest
    by true is rest =
        ap (λ b. not b || list_any (λ o. same_hop o message && not (same_message o message)) held)
        (alike set list other message legal (All-head (IsSent set list) other held each) sent is) ∙ rest

-- a sent message that comes before its turn
early_is_good : (set : Set) (list : List Placed) (room : ℕ) (held : List Message) (message : Message) → IsLegal set list → IsSent set list message →
    All (IsSent set list) held → IsGood (early room held message)
early_is_good set list room held message legal sent each =
    cond_both (list_any (λ other. same_hop other message && not (same_message other message)) held) _ _ IsGood
    (λ some. absurd (not_both _ some (none_other set list held message legal sent each)))
    (λ none. cond_both (list_any (same_message message) held) _ _ IsGood
    (λ there e. cc)
    (λ not_there. cond_both (nat_lt (length held) room) _ _ IsGood (λ room e. cc) (λ full e. cc)))

-- a hop that doesn't refuse
done_is_good : (set : Set) (history : History) (held : List Message) (message : Message) (outcome : HopOutcome) →
    ((need : ℕ) → outcome ≡ Err need → ⊥) → IsGood (done_by set history held message outcome)
done_is_good set history held message (Ok (results, db)) never e = cc
done_is_good set history held message (Err need) never e = never need refl

-- the entry of the message's hop ran on this very message
repeat_is_good : (set : Set) (list : List Placed) (server : ℕ) (message : Message) (entry : Entry) → IsLegal set list → IsSent set list message →
    IsIn (record { server = server; entry = entry }) list → is_hop_of message.chain message.hop entry ≡ true → repeated set message entry ≢ Malformed
repeat_is_good set list server message (Begun begun) legal sent there is = cc
repeat_is_good set list server message (Refused refused) legal sent there is = cc
repeat_is_good set list server message (HopRan ran) legal sent there is =
    let was = message-sent set list (record { server = server; entry = HopRan ran }) ran.message legal there refl in
    cond_both (same_message ran.message message) (Repeat ran.stamp ran.results (next_message set (HopRan ran))) Malformed (λ (answer : Delivered). answer ≢ Malformed)
    (λ same e. cc)
    (λ differs. absurd (not_both (same_message ran.message message) (alike set list ran.message message legal was sent is) differs))

-- a sent message at the server of its hop, with what is known of it
record IsAtServer (set : Set) (list : List Placed) (server : ℕ) (message : Message) : Type 0 where
  is_set : IsSet set
  legal : IsLegal set list
  sent : IsSent set list message
  from : Descends set list message
  has : HasHop set message.program message.hop
  here : has.hop.server ≡ server
  below : server < MAX_SERVERS

-- a sent message for a hop that hasn't run
by_turn_is_good : (set : Set) (list : List Placed) (server room : ℕ) (held : List Message) (message : Message) → IsAtServer set list server message →
    All (IsSent set list) held → hop_entry_of message.chain message.hop (history_of server list) ≡ None →
    IsGood (deliver_by_turn set server room (history_of server list) held message (number_in message.numbers server)
    (turn_of set server (history_of server list) message.chain.origin))
by_turn_is_good set list server room held message at each none =
    let history = history_of server list in
    let number = number_in message.numbers server in
    let turn = turn_of set server history message.chain.origin in
    cond_both (nat_lt number turn) _ _ IsGood
    (λ past. absurd (clash _ none (ran_before set list server message at.from at.has at.here at.below at.legal (ltb-true _ _ past))))
    (λ not_past. cond_both (nat_lt turn number) _ _ IsGood
    (λ ahead. early_is_good set list room held message at.legal at.sent each)
    (λ now. cond_both (is_full history message.stamp) _ _ IsGood
    (λ full e. cc)
    (λ left. done_is_good set history held message (meaning set message.program message.hop message.args message.results (tables_of set history))
    (λ need refused. meaning-never_refuses set message.program message.hop at.has at.is_set at.from.for_hop.later
    message.args message.results (tables_of set history) need refused))))
  where
    clash : (o : Option Entry) → o ≡ None → is_some o ≡ true → ⊥
    clash o is some = cc (ap (λ (x : Option Entry). is_some x) is)

-- a sent message that is well formed
new_is_good : (set : Set) (list : List Placed) (server room : ℕ) (held : List Message) (message : Message) (entry : Option Entry) →
    IsAtServer set list server message → All (IsSent set list) held → hop_entry_of message.chain message.hop (history_of server list) ≡ entry →
    IsGood (deliver_new set server room (history_of server list) held message entry)
new_is_good set list server room held message None at each is = by_turn_is_good set list server room held message at each is
new_is_good set list server room held message (Some entry) at each is =
    let found = found_in (is_hop_of message.chain message.hop) (history_of server list) entry is in
    repeat_is_good set list server message entry at.legal at.sent (in_list server list entry found.0) found.1

-- what is known of a sent message at its destination
at_server : (set : Set) (list : List Placed) (message : Message) → IsSet set → IsLegal set list → IsSent set list message →
    IsAtServer set list (destination_of set message) message
at_server set list message is legal sent =
    let from = descends set list message legal sent in
    let has = has_hop set message.program message.hop from.for_hop.within in
    let here : destination_of set message ≡ has.hop.server =
    ap (λ o. unwrap_or (option_map (λ (h : Hop). h.server) o) 0) (hop_at-is set message.program message.hop has) in
    let within = (set_fits set message.program message.hop has is).server in
    let few = is.0.1 in
    record {
      is_set = is;
      legal = legal;
      sent = sent;
      from = from;
      has = has;
      here = sym here;
      below = omega arith;
    }

-- a sent message is never answered Malformed, whatever other sent messages its server holds
pub sent_is_never_malformed : (set : Set) (list : List Placed) (room : ℕ) (held : List Message) (message : Message) → IsSet set → IsLegal set list →
    IsSent set list message → All (IsSent set list) held →
    (delivery set (destination_of set message) room (history_of (destination_of set message) list) held message).delivered ≢ Malformed
sent_is_never_malformed set list room held message is legal sent each =
    let server = destination_of set message in
    let at = at_server set list message is legal sent in
    let formed = sent_is_well_formed set list server message at.from at.has at.here legal in
    subst (λ b. IsGood (cond b (deliver_new set server room (history_of server list) held message (hop_entry_of message.chain message.hop (history_of server list)))
    (record { delivered = Malformed; added = None; held = held }))) (sym formed)
    (new_is_good set list server room held message _ at each refl)
