-- Every entry that a server adds is lawful.
use Rattle.std.proofs.Common.{◌≡◌, ℕ, ◌+◌, ◌≤◌, Bool, true, false, not, ◌&&◌, ◌||◌, cond, max, List, [], ◌∷◌, length, Option, Some, None, IsTrue, IsNone, IfSome, Ok, Err, nat_lt, nat_eq, is_some, unwrap_or, refl, sym, ap, ◌∙◌, arith}
use Rattle.std.proofs.lemmas.Bool.{cond_both, eqb-true, ltb-true, ltb-false}
use Rattle.std.specs.List.{list_any}
use Rattle.lynx_names.specs.declared.limits.TheConstants.{MAX_ENTRIES, STAMP_LIMIT}
use Rattle.lynx_set.specs.declared.program.Hop.{Hop}
use Rattle.lynx_set.specs.declared.program.Program.{Program}
use Rattle.lynx_set.specs.Set.{Set}
use Rattle.lynx_hops.specs.Meaning.{HopOutcome, meaning}
use Rattle.lynx_entry.specs.declared.answer.Answer.{Answer}
use Rattle.lynx_entry.specs.declared.entry.Entry.{Entry}
use Rattle.lynx_entry.specs.declared.entry.Entry.TheVariants.{Begun, Refused, Hop as HopRan}
use Rattle.lynx_entry.specs.declared.request.Request.{Request}
use Rattle.lynx_entry.specs.declared.message.Message.{Message}
use Rattle.lynx_entry.specs.Entry.{History}
use Rattle.lynx_rules.specs.Visits.{starts_at, is_origin, visits}
use Rattle.lynx_rules.specs.Turns.{is_begun, begun_count, begins_visiting, number_for, turn_of}
use Rattle.lynx_rules.specs.Tables.{tables_of, clock_of}
use Rattle.lynx_rules.specs.Checks.{request_fault, request_fault_in, is_well_formed}
use Rattle.lynx_rules.specs.Lawful.{HasRoom, MayBegin, IsLawful, Runs, Starts, record_of, hop_entry_of, number_at}
use Rattle.lynx_rules.specs.Answers.{Begins, is_full, is_busy, begun_by, answer_new, answer_recorded, answer}
use Rattle.lynx_rules.specs.Deliveries.{Delivers, delivery, deliver_new, deliver_by_turn, done_by, early, same_hop, same_message}
use Rattle.lynx_set.specs.Lookups.{hops_of, program_at}

-- a test that must not answer
passes : (b : Bool) (fault : Answer) (rest : Option Answer) → IsNone (cond (not b) (Some fault) rest) → b ≡ true
passes true fault rest none = refl
passes false fault rest none = cc

-- a request without fault is of a program that begins here
origin_of_request : (set : Set) (server : ℕ) (request : Request) (program : Option Program) →
    IsNone (request_fault_in set server request program) → is_origin set request.program server ≡ true
origin_of_request set server request None none = cc
origin_of_request set server request (Some program) none = passes (is_origin set request.program server) _ _ none

-- a program visits its origin
origin_is_visited : (hops : List Hop) (server : ℕ) → starts_at hops server ≡ true → visits hops server ≡ true
origin_is_visited [] server starts = cc
origin_is_visited (hop ∷ hops) server starts = rw starts refl

-- a chain that begins lawfully visits the server where it begins
pub begins_visiting-lawful : (set : Set) (server : ℕ) (history : History) (entry : Entry) →
    IsLawful set server history entry → begins_visiting set server entry ≡ is_begun entry
begins_visiting-lawful set server history (Begun begun) lawful =
    origin_is_visited (hops_of set begun.request.program) server
    (origin_of_request set server begun.request (program_at set begun.request.program) lawful.may_begin.in_order)
begins_visiting-lawful set server history (Refused refused) lawful = refl
begins_visiting-lawful set server history (HopRan ran) lawful = refl

both_pass : (a b : Bool) → (not a || not b) ≡ false → (a ≡ true) × (b ≡ true)
both_pass true true passed = (refl, refl)
both_pass true false passed = cc
both_pass false b passed = cc

-- a history that isn't full has room
room_left : (history : History) (told : ℕ) → is_full history told ≡ false → HasRoom history told
room_left history told left =
    let tests = both_pass (nat_lt (length history) MAX_ENTRIES) (nat_lt (max (clock_of history) told + 1) STAMP_LIMIT) left in
    record { entries = ltb-true _ _ tests.0; stamps = ltb-true _ _ tests.1 }

-- a new begin adds a lawful entry
begun_by-lawful : (set : Set) (server : ℕ) (history : History) (request : Request) (seen : ℕ) (outcome : HopOutcome) →
    meaning set request.program 0 request.args [] (tables_of set history) ≡ outcome →
    HasRoom history seen → MayBegin set server history request →
    IfSome (begun_by set server history request seen outcome).added (Starts set server history)
begun_by-lawful set server history request seen (Ok (results, db)) is room may_begin = record {
  lawful = record {
    room = room;
    stamp = refl;
    may_begin = may_begin;
    origin = refl;
    index = refl;
    numbers = refl;
    results = (db, is);
  };
  of_none = refl;
}
begun_by-lawful set server history request seen (Err need) is room may_begin = record {
  lawful = record {
    room = room;
    stamp = refl;
    may_begin = may_begin;
    need = is;
  };
  of_none = refl;
}

not_busy : (turn count : ℕ) → not (nat_eq turn count) ≡ false → turn ≡ count
not_busy turn count free = eqb-true turn count (twice (nat_eq turn count) free)
  where
    twice : (b : Bool) → not b ≡ false → b ≡ true
    twice true e = refl
    twice false e = cc

answer_new-lawful : (set : Set) (server : ℕ) (history : History) (request : Request) (seen : ℕ) (fault : Option Answer) →
    IsNone (record_of request history) → request_fault set server request ≡ fault →
    number_for set history server ≡ begun_count history →
    IfSome (answer_new set server history request seen fault).added (Starts set server history)
answer_new-lawful set server history request seen (Some fault) new is counted = tt
answer_new-lawful set server history request seen None new is counted =
    cond_both (is_full history seen) _ _ (λ (begins : Begins). IfSome begins.added (Starts set server history))
    (λ full. tt)
    (λ left. cond_both (is_busy set server history) _ _ (λ (begins : Begins). IfSome begins.added (Starts set server history))
    (λ busy. tt)
    (λ free. begun_by-lawful set server history request seen _ refl (room_left history seen left)
    (record { new = new; in_order = ap is_some is; in_turn = counted ∙ sym (not_busy _ _ free) })))

answer_recorded-lawful : (set : Set) (server : ℕ) (history : History) (request : Request) (seen : ℕ) (entry : Option Entry) →
    record_of request history ≡ entry → number_for set history server ≡ begun_count history →
    IfSome (answer_recorded set server history request seen entry).added (Starts set server history)
answer_recorded-lawful set server history request seen (Some entry) is counted = tt
answer_recorded-lawful set server history request seen None is counted =
    answer_new-lawful set server history request seen _ (ap is_some is) refl counted

-- The entry that a begin adds is lawful, and is of no message, where each chain that began here visits this server.
pub answer-lawful : (set : Set) (server : ℕ) (history : History) (request : Request) (seen : ℕ) →
    number_for set history server ≡ begun_count history →
    IfSome (answer set server history request seen).added (Starts set server history)
answer-lawful set server history request seen counted = answer_recorded-lawful set server history request seen _ refl counted

-- the hop of that message came out so
done_by-lawful : (set : Set) (server : ℕ) (history : History) (held : List Message) (message : Message) (outcome : HopOutcome) →
    meaning set message.program message.hop message.args message.results (tables_of set history) ≡ outcome →
    HasRoom history message.stamp → IsTrue (is_well_formed set server history message) →
    IsNone (hop_entry_of message.chain message.hop history) →
    unwrap_or (number_at message.numbers server) 0 ≡ turn_of set server history message.chain.origin →
    IfSome (done_by set history held message outcome).added (Runs set server history message)
done_by-lawful set server history held message (Ok (results, db)) is room formed new in_turn = record {
  lawful = record {
    room = room;
    stamp = refl;
    well_formed = formed;
    new = new;
    in_turn = in_turn;
    results = (db, is);
  };
  of_message = refl;
}
done_by-lawful set server history held message (Err need) is room formed new in_turn = tt

-- a message that is held, or not, adds nothing
early-adds_nothing : (room : ℕ) (held : List Message) (message : Message) (P : Entry → Type 0) → IfSome (early room held message).added P
early-adds_nothing room held message P =
    cond_both (list_any (λ other. same_hop other message && not (same_message other message)) held) _ _ (λ (delivers : Delivers). IfSome delivers.added P)
    (λ other. tt)
    (λ same. cond_both (list_any (same_message message) held) _ _ (λ (delivers : Delivers). IfSome delivers.added P)
    (λ there. tt)
    (λ not_there. cond_both (nat_lt (length held) room) _ _ (λ (delivers : Delivers). IfSome delivers.added P)
    (λ holds. tt) (λ drops. tt)))

deliver_by_turn-lawful : (set : Set) (server room : ℕ) (history : History) (held : List Message) (message : Message) →
    IsTrue (is_well_formed set server history message) → IsNone (hop_entry_of message.chain message.hop history) →
    IfSome (deliver_by_turn set server room history held message
    (unwrap_or (number_at message.numbers server) 0) (turn_of set server history message.chain.origin)).added
    (Runs set server history message)
deliver_by_turn-lawful set server room history held message formed new =
    let number = unwrap_or (number_at message.numbers server) 0 in
    let turn = turn_of set server history message.chain.origin in
    let Lawful : Delivers → Type 0 = λ delivers. IfSome delivers.added (Runs set server history message) in
    cond_both (nat_lt number turn) _ _ Lawful
    (λ past. tt)
    (λ not_past. cond_both (nat_lt turn number) _ _ Lawful
    (λ ahead. early-adds_nothing room held message (Runs set server history message))
    (λ not_ahead. cond_both (is_full history message.stamp) _ _ Lawful
    (λ full. tt)
    (λ left. done_by-lawful set server history held message _ refl (room_left history message.stamp left) formed new
    (same_number number turn (ltb-false _ _ not_past) (ltb-false _ _ not_ahead)))))
  where
    same_number : (number turn : ℕ) → turn ≤ number → number ≤ turn → number ≡ turn
    same_number number turn a b = omega arith

deliver_new-lawful : (set : Set) (server room : ℕ) (history : History) (held : List Message) (message : Message) (entry : Option Entry) →
    IsTrue (is_well_formed set server history message) → hop_entry_of message.chain message.hop history ≡ entry →
    IfSome (deliver_new set server room history held message entry).added (Runs set server history message)
deliver_new-lawful set server room history held message (Some entry) formed is = tt
deliver_new-lawful set server room history held message None formed is =
    deliver_by_turn-lawful set server room history held message formed (ap is_some is)

-- The entry that a delivery adds is lawful, and is of the message that was delivered.
pub delivery-lawful : (set : Set) (server room : ℕ) (history : History) (held : List Message) (message : Message) →
    IfSome (delivery set server room history held message).added (Runs set server history message)
delivery-lawful set server room history held message =
    cond_both (is_well_formed set server history message) _ _ (λ (delivers : Delivers). IfSome delivers.added (Runs set server history message))
    (λ formed. deliver_new-lawful set server room history held message _ formed refl)
    (λ malformed. tt)
