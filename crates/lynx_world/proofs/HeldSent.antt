-- What a server holds after a delivery was sent, where what it held before was, and the message.
use Rattle.std.proofs.Common.{◌≡◌, ℕ, zero, suc, Bool, true, false, not, ◌&&◌, cond, nat_lt, fold, insert, length, List, [], ◌∷◌, Option, Some, None, Ok, Err, All, unwrap_or, subst}
use Rattle.std.specs.List.{list_any}
use Rattle.std.proofs.lemmas.Bool.{cond_both}
use Rattle.std.proofs.lemmas.List.Elements.{All-cons, All-filter, All-head, All-nil, All-tail}
use Rattle.lynx_set.specs.Set.{Set}
use Rattle.lynx_hops.specs.Meaning.{HopOutcome}
use Rattle.lynx_entry.specs.declared.entry.Entry.{Entry}
use Rattle.lynx_entry.specs.declared.message.Message.{Message}
use Rattle.lynx_entry.specs.Entry.{History}
use Rattle.lynx_turn.specs.Held.{is_before, least_of, lesser, place_for}
use Rattle.lynx_rules.specs.Answers.{is_full}
use Rattle.lynx_rules.specs.Checks.{is_well_formed}
use Rattle.lynx_rules.specs.Deliveries.{Delivers, deliver_by_turn, deliver_new, delivery, done_by, early, same_hop, same_message}
use Rattle.lynx_rules.specs.Lawful.{hop_entry_of, number_at}
use Rattle.lynx_rules.specs.Turns.{turn_of}

-- all of it holds of each message that is held afterwards
abbrev HoldsOf : (Message → Type 0) → Delivers → Type 0
HoldsOf P delivers = All P delivers.held

insert_all : (P : Message → Type 0) (held : List Message) (place : ℕ) (message : Message) → All P held → P message → All P (insert held place message)
insert_all P [] zero message each its = All-cons P message [] its (All-nil P)
insert_all P [] (suc place) message each its = All-cons P message [] its (All-nil P)
insert_all P (first ∷ held) zero message each its = All-cons P message (first ∷ held) its each
insert_all P (first ∷ held) (suc place) message each its =
    All-cons P first (insert held place message) (All-head P first held each) (insert_all P held place message (All-tail P first held each) its)

early_holds : (P : Message → Type 0) (room : ℕ) (held : List Message) (message : Message) → All P held → P message → HoldsOf P (early room held message)
early_holds P room held message each its =
    cond_both (list_any (λ other. same_hop other message && not (same_message other message)) held) _ _ (HoldsOf P)
    (λ other. each)
    (λ same. cond_both (list_any (same_message message) held) _ _ (HoldsOf P)
    (λ there. each)
    (λ not_there. cond_both (nat_lt (length held) room) _ _ (HoldsOf P)
    (λ holds. insert_all P held (place_for message held) message each its) (λ drops. each)))

done_holds : (P : Message → Type 0) (set : Set) (history : History) (held : List Message) (message : Message) (outcome : HopOutcome) → All P held →
    HoldsOf P (done_by set history held message outcome)
done_holds P set history held message (Ok outcome) each = All-filter (λ other. not (same_hop other message)) P held each
done_holds P set history held message (Err need) each = each

by_turn_holds : (P : Message → Type 0) (set : Set) (server room : ℕ) (history : History) (held : List Message) (message : Message) (number turn : ℕ) → All P held → P message →
    HoldsOf P (deliver_by_turn set server room history held message number turn)
by_turn_holds P set server room history held message number turn each its =
    cond_both (nat_lt number turn) _ _ (HoldsOf P)
    (λ past. each)
    (λ not_past. cond_both (nat_lt turn number) _ _ (HoldsOf P)
    (λ ahead. early_holds P room held message each its)
    (λ now. cond_both (is_full history message.stamp) _ _ (HoldsOf P)
    (λ full. each)
    (λ left. done_holds P set history held message _ each)))

new_holds : (P : Message → Type 0) (set : Set) (server room : ℕ) (history : History) (held : List Message) (message : Message) (entry : Option Entry) → All P held → P message →
    HoldsOf P (deliver_new set server room history held message entry)
new_holds P set server room history held message (Some entry) each its = each
new_holds P set server room history held message None each its =
    by_turn_holds P set server room history held message (unwrap_or (number_at message.numbers server) 0) (turn_of set server history message.chain.origin) each its

pub delivery_holds : (P : Message → Type 0) (set : Set) (server room : ℕ) (history : History) (held : List Message) (message : Message) → All P held → P message →
    All P (delivery set server room history held message).held
delivery_holds P set server room history held message each its =
    cond_both (is_well_formed set server history message) _ _ (HoldsOf P)
    (λ formed. new_holds P set server room history held message (hop_entry_of message.chain message.hop history) each its)
    (λ malformed. each)

-- it holds of the message, if there is one
abbrev HoldsOne : (Message → Type 0) → Option Message → Type 0
HoldsOne P None = Unit {0}
HoldsOne P (Some message) = P message

lesser_holds : (P : Message → Type 0) (least : Option Message) (message : Message) → HoldsOne P least → P message → HoldsOne P (lesser least message)
lesser_holds P None message least its = its
lesser_holds P (Some other) message least its = by (is_before message other)
  where
    by : (b : Bool) → HoldsOne P (cond b (Some message) (Some other))
    by true = its
    by false = least

least_holds : (P : Message → Type 0) (least : Option Message) (messages : List Message) → HoldsOne P least → All P messages → HoldsOne P (fold lesser least messages)
least_holds P least [] is each = is
least_holds P least (message ∷ messages) is each =
    least_holds P (lesser least message) messages (lesser_holds P least message is (All-head P message messages each)) (All-tail P message messages each)

-- it holds of the least of messages of which it holds
pub least_of_holds : (P : Message → Type 0) (messages : List Message) (message : Message) → All P messages → least_of messages ≡ Some message → P message
least_of_holds P messages message each is = subst (HoldsOne P) is (least_holds P None messages tt each)
