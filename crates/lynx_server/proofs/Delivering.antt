-- What a delivery was answered is the definition's.
use Rattle.std.proofs.Common.{◌≡◌, ℕ, not, ◌&&◌, if◌then◌else◌, nat_lt, length, filter, List, [], Option, Some, None, Ok, Err, unwrap_or, refl, sym, subst}
use Rattle.std.specs.List.{list_any}
use Rattle.std.proofs.lemmas.Bool.{cond_both}
use Rattle.lynx_set.specs.Set.{Set}
use Rattle.lynx_hops.specs.Meaning.{HopOutcome}
use Rattle.lynx_names.specs.declared.limits.TheConstants.{MAX_HELD}
use Rattle.lynx_entry.specs.declared.answer.Delivered.{Delivered}
use Rattle.lynx_entry.specs.declared.answer.Delivered.TheVariants.{Done, Repeat, Held, Dropped, Malformed, Full, Stopped, Memory}
use Rattle.lynx_entry.specs.declared.entry.Entry.{Entry}
use Rattle.lynx_entry.specs.declared.entry.Entry.TheVariants.{Begun, Refused, Hop}
use Rattle.lynx_entry.specs.declared.message.Message.{Message}
use Rattle.lynx_entry.specs.Entry.{History}
use Rattle.lynx_keep.specs.Kept.{Terms}
use Rattle.lynx_turn.specs.Held.{is_for}
use Rattle.lynx_rules.specs.Answers.{is_full}
use Rattle.lynx_rules.specs.Checks.{is_well_formed}
use Rattle.lynx_rules.specs.Lawful.{hop_entry_of, number_at}
use Rattle.lynx_rules.specs.Turns.{turn_of}
use Rattle.lynx_rules.specs.Deliveries as spec
use Rattle.lynx_rules.specs.Deliveries.{same_hop, same_message, repeated, early, done_by, deliver_by_turn, deliver_new, delivery}
use Rattle.lynx_server.specs.Serving.{Serving, Delivers, IsDelivered, delivery_of}
use Rattle.lynx_server.specs.inner.Trying.{is_done}

-- an answer that a definition gives
abbrev pub IsPlain : Delivered → Type 0
IsPlain Stopped = ⊥
IsPlain Memory = ⊥
IsPlain given = Unit {0}

repeated-plain : (set : Set) (message : Message) (entry : Entry) → IsPlain (repeated set message entry)
repeated-plain set message (Begun begun) = tt
repeated-plain set message (Refused refused) = tt
repeated-plain set message (Hop ran) = cond_both (same_message ran.message message) _ _ IsPlain (λ same. tt) (λ other. tt)

early-plain : (room : ℕ) (held : List Message) (message : Message) → IsPlain (early room held message).delivered
early-plain room held message =
    cond_both (list_any (λ other. same_hop other message && not (same_message other message)) held) _ _ (λ (delivers : spec.Delivers). IsPlain delivers.delivered)
    (λ other. tt)
    (λ same. cond_both (list_any (same_message message) held) _ _ (λ (delivers : spec.Delivers). IsPlain delivers.delivered)
    (λ there. tt)
    (λ not_there. cond_both (nat_lt (length held) room) _ _ (λ (delivers : spec.Delivers). IsPlain delivers.delivered) (λ holds. tt) (λ drops. tt)))

done_by-plain : (set : Set) (history : History) (held : List Message) (message : Message) (outcome : HopOutcome) → IsPlain (done_by set history held message outcome).delivered
done_by-plain set history held message (Ok outcome) = tt
done_by-plain set history held message (Err need) = tt

by_turn-plain : (set : Set) (server room : ℕ) (history : History) (held : List Message) (message : Message) (number turn : ℕ) →
    IsPlain (deliver_by_turn set server room history held message number turn).delivered
by_turn-plain set server room history held message number turn =
    cond_both (nat_lt number turn) _ _ (λ (delivers : spec.Delivers). IsPlain delivers.delivered)
    (λ past. tt)
    (λ not_past. cond_both (nat_lt turn number) _ _ (λ (delivers : spec.Delivers). IsPlain delivers.delivered)
    (λ ahead. early-plain room held message)
    (λ not_ahead. cond_both (is_full history message.stamp) _ _ (λ (delivers : spec.Delivers). IsPlain delivers.delivered)
    (λ full. tt)
    (λ left. done_by-plain set history held message _)))

new-plain : (set : Set) (server room : ℕ) (history : History) (held : List Message) (message : Message) (entry : Option Entry) →
    IsPlain (deliver_new set server room history held message entry).delivered
new-plain set server room history held message (Some entry) = repeated-plain set message entry
new-plain set server room history held message None =
    by_turn-plain set server room history held message (unwrap_or (number_at message.numbers server) 0) (turn_of set server history message.chain.origin)

pub delivery-plain : (set : Set) (server room : ℕ) (history : History) (held : List Message) (message : Message) →
    IsPlain (delivery set server room history held message).delivered
delivery-plain set server room history held message =
    cond_both (is_well_formed set server history message) _ _ (λ (delivers : spec.Delivers). IsPlain delivers.delivered)
    (λ formed. new-plain set server room history held message (hop_entry_of message.chain message.hop history))
    (λ malformed. tt)

given-so : {K : Type 0} (terms : Terms K) (old : Serving K) (message : Message) (given : Delivered) (new : Serving K) →
    IsPlain given → IsDelivered old (delivery_of old message) given new → Delivers terms old message given new
given-so terms old message (Done stamp results next) new plain is = is
given-so terms old message (Repeat stamp results next) new plain is = is
given-so terms old message Held new plain is = is
given-so terms old message Dropped new plain is = is
given-so terms old message Malformed new plain is = is
given-so terms old message Full new plain is = is
given-so terms old message Stopped new plain is = absurd plain
given-so terms old message Memory new plain is = absurd plain

-- a delivery that is the definition's is none of memory or a stop
pub delivered-so : {K : Type 0} (terms : Terms K) (old : Serving K) (message : Message) (given : Delivered) (new : Serving K) →
    IsDelivered old (delivery_of old message) given new → Delivers terms old message given new
delivered-so terms old message given new is =
    given-so terms old message given new
    (subst IsPlain (sym is.delivered_is) (delivery-plain old.set old.server MAX_HELD old.history old.held message)) is

-- what is held makes no other answer
pub same_delivered : (set : Set) (history : History) (held : List Message) (message : Message) (outcome : HopOutcome) →
    (done_by set history [] message outcome).delivered ≡ (done_by set history held message outcome).delivered
same_delivered set history held message (Ok outcome) = refl
same_delivered set history held message (Err need) = refl

pub same_added : (set : Set) (history : History) (held : List Message) (message : Message) (outcome : HopOutcome) →
    (done_by set history [] message outcome).added ≡ (done_by set history held message outcome).added
same_added set history held message (Ok outcome) = refl
same_added set history held message (Err need) = refl

-- what is held for a hop that ran is let go
pub held_then : (set : Set) (history : History) (held : List Message) (message : Message) (outcome : HopOutcome) →
    (if is_done (done_by set history [] message outcome).delivered then filter (λ other. not (is_for message.chain message.hop other)) held else held)
    ≡ (done_by set history held message outcome).held
held_then set history held message (Ok outcome) = refl
held_then set history held message (Err need) = refl
