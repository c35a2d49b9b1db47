-- What a delivery is answered, the entry that it adds, and what is held after it.
use Rattle.std.specs.Prelude.{◌≡◌, ℕ, ◌+◌, ◌==◌, ◌&&◌, Bool, not, max, if◌then◌else◌, nat_lt, nat_eq, List, length, filter, insert, Option, Some, None, Ok, Err, unwrap_or}
use Rattle.std.specs.List.{list_any}
use Rattle.std.specs.Cmp.Lexicographic.{pointwise}
use Rattle.lynx_set.specs.Set.{Set}
use Rattle.lynx_hops.specs.Meaning.{HopOutcome, meaning}
use Rattle.lynx_entry.specs.declared.answer.Delivered.{Delivered}
use Rattle.lynx_entry.specs.declared.answer.Delivered.TheVariants.{Done, Repeat, Held, Dropped, Malformed, Full}
use Rattle.lynx_entry.specs.declared.entry.Entry.{Entry}
use Rattle.lynx_entry.specs.declared.entry.Entry.TheVariants.{Begun, Refused, Hop}
use Rattle.lynx_entry.specs.declared.message.Message.{Message}
use Rattle.lynx_entry.specs.Entry.{History}
pub use Rattle.lynx_turn.specs.Held.{same_chain, same_hop}
use Rattle.lynx_turn.specs.Held.{place_for}
use Rattle.lynx_rules.specs.Turns.{turn_of}
use Rattle.lynx_rules.specs.Tables.{tables_of, clock_of}
use Rattle.lynx_rules.specs.Messages.{next_message}
use Rattle.lynx_rules.specs.Checks.{same_numbers, is_well_formed}
use Rattle.lynx_rules.specs.Lawful.{hop_entry_of, number_at}
use Rattle.lynx_rules.specs.Answers.{is_full}

-- what comes of a delivery: its answer, the entry that is added, if one is, and the messages held
-- after it
pub record Delivers : Type 0 where
  pub delivered : Delivered
  pub added : Option Entry
  pub held : List Message

-- the same message
abbrev pub same_message : Message → Message → Bool
same_message left right =
    same_hop left right && (left.program == right.program) && (left.stamp == right.stamp)
    && pointwise nat_eq left.args right.args
    && same_numbers left.numbers right.numbers
    && pointwise (pointwise nat_eq) left.results right.results

-- the hop ran before: on this message, or on another
abbrev pub repeated : Set → Message → Entry → Delivered
repeated set message (Begun begun) = Malformed
repeated set message (Refused refused) = Malformed
repeated set message (Hop ran) =
    if same_message ran.message message
    then Repeat ran.stamp ran.results (next_message set (Hop ran))
    else Malformed

-- a message that comes before its turn is held, where there is room, in order of origin, index and
-- hop
abbrev pub early : ℕ → List Message → Message → Delivers
early room held message =
    if list_any (λ other. same_hop other message && not (same_message other message)) held
    then record { delivered = Malformed; added = None; held = held }
    else (if list_any (same_message message) held
    then record { delivered = Held; added = None; held = held }
    else (if nat_lt (length held) room
    then record {
      delivered = Held;
      added = None;
      held = insert held (place_for message held) message;
    }
    else record { delivered = Dropped; added = None; held = held }))

-- a hop that ran on this message gives the entry with that stamp, and lets go what was held for it
abbrev pub done_at : Set → List Message → Message → ℕ → List ℕ → Delivers
done_at set held message stamp results =
    let ran = Hop (record { message = message; stamp = stamp; results = results }) in
    record {
      delivered = Done stamp results (next_message set ran);
      added = Some ran;
      held = filter (λ other. not (same_hop other message)) held;
    }

-- a hop whose turn it is came out so; a later hop has no needs, so none refuses
abbrev pub done_by : Set → History → List Message → Message → HopOutcome → Delivers
done_by set history held message (Ok outcome) =
    done_at set held message (max (clock_of history) message.stamp + 1) outcome.0
done_by set history held message (Err need) =
    record { delivered = Malformed; added = None; held = held }

-- a well formed message of a hop that hasn't run, by its number and the turn
abbrev pub deliver_by_turn : Set → ℕ → ℕ → History → List Message → Message → ℕ → ℕ → Delivers
deliver_by_turn set server room history held message number turn =
    if nat_lt number turn then record { delivered = Malformed; added = None; held = held }
    else (if nat_lt turn number then early room held message
    else (if is_full history message.stamp
    then record { delivered = Full; added = None; held = held }
    else done_by set history held message
    (meaning set message.program message.hop message.args message.results (tables_of set history))))

abbrev pub deliver_new : Set → ℕ → ℕ → History → List Message → Message → Option Entry → Delivers
deliver_new set server room history held message (Some entry) =
    record { delivered = repeated set message entry; added = None; held = held }
deliver_new set server room history held message None =
    deliver_by_turn set server room history held message
    (unwrap_or (number_at message.numbers server) 0)
    (turn_of set server history message.chain.origin)

-- The answer of a server with this history, which holds these messages and has room for so many:
-- the first of these whose condition holds. A message that nobody can have sent; a hop that ran; a
-- hop whose turn it is not; no room; else the hop runs.
abbrev pub delivery : Set → ℕ → ℕ → History → List Message → Message → Delivers
delivery set server room history held message =
    if is_well_formed set server history message
    then deliver_new set server room history held message
    (hop_entry_of message.chain message.hop history)
    else record { delivered = Malformed; added = None; held = held }
