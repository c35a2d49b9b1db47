-- Reading a body as what its tag says, and the item at the front of a stream.
use Rattle.std.specs.Prelude.{ℕ, Bool, List, [], ◌∷◌, length, Result, Ok, Err, ◌==◌, if◌then◌else◌}
use Rattle.lynx_names.specs.declared.chain.ChainId.{ChainId}
use Rattle.lynx_names.specs.declared.numbers.NumberAt.{NumberAt}
use Rattle.lynx_names.specs.declared.limits.TheConstants.{MAX_PROGRAMS, MAX_PARAMETERS, MAX_ACTIONS}
use Rattle.lynx_entry.specs.declared.request.Request.{Request}
use Rattle.lynx_entry.specs.declared.message.Message.{Message}
use Rattle.lynx_entry.specs.declared.answer.Answer.{Answer}
use Rattle.lynx_entry.specs.declared.answer.Answer.TheVariants as answers
use Rattle.lynx_entry.specs.declared.entry.BegunEntry.{BegunEntry}
use Rattle.lynx_entry.specs.declared.entry.RefusedEntry.{RefusedEntry}
use Rattle.lynx_entry.specs.declared.entry.HopEntry.{HopEntry}
use Rattle.lynx_entry.specs.declared.entry.Entry.TheVariants as entries
use Rattle.lynx_codec.specs.declared.fault.DecodeFault.{DecodeFault}
use Rattle.lynx_codec.specs.declared.fault.DecodeFault.TheVariants as faults
use Rattle.lynx_codec.specs.declared.item.Look.{Look}
use Rattle.lynx_codec.specs.declared.item.Looked.{Looked}
use Rattle.lynx_codec.specs.declared.item.Looked.TheVariants as looks
use Rattle.lynx_codec.specs.declared.item.Item.{Item}
use Rattle.lynx_codec.specs.declared.item.Item.TheVariants as items
use Rattle.lynx_codec.specs.declared.tag.Tag.{Tag}
use Rattle.lynx_codec.specs.declared.tag.Tag.TheVariants as tags
use Rattle.lynx_codec.specs.Reading.{Reader, ◌>>=◌, ◌then◌, made, nothing, one_of, byte_at, byte_below, word_at, flag_at, stamp_at, chain_at, values_at, numbers_at, result_lists_at}

abbrev pub request_of : ℕ × (ℕ × (ℕ × List ℕ)) → Request
request_of (client, (number, (program, args))) =
    record { client = client; number = number; program = program; args = args }

unfoldable pub request_at : Reader Request
request_at =
    made request_of
    (word_at then word_at then byte_below MAX_PROGRAMS then values_at MAX_PARAMETERS)

unfoldable pub look_at : Reader Look
look_at = made (λ f. record { chain = f.0; hop = f.1 }) (chain_at then byte_at)

abbrev pub begun_of : ChainId × (ℕ × (Bool × List ℕ)) → Answer
begun_of (id, (stamp, (again, results))) = answers.Begun id stamp results again

abbrev pub refused_of : ℕ × (ℕ × Bool) → Answer
refused_of (need, (stamp, again)) = answers.Refused need stamp again

abbrev pub begun_at : Reader Answer
begun_at = made begun_of (chain_at then stamp_at then flag_at then values_at MAX_ACTIONS)

abbrev pub refused_at : Reader Answer
refused_at = made refused_of (byte_below MAX_ACTIONS then stamp_at then flag_at)

-- the kinds of answers
abbrev pub answer_kinds : List (ℕ × Reader Answer)
answer_kinds =
    (0, begun_at) ∷ (1, nothing answers.Clash) ∷ (2, nothing answers.UnknownProgram)
    ∷ (3, nothing answers.WrongOrigin) ∷ (4, nothing answers.ArgCount)
    ∷ (5, nothing answers.WrongShard) ∷ (6, nothing answers.Full) ∷ (7, nothing answers.Busy)
    ∷ (8, refused_at)
    ∷ (9, nothing answers.Stopped) ∷ (10, nothing answers.Memory)
    ∷ (11, nothing answers.OutsideRange) ∷ []

unfoldable pub answer_at : Reader Answer
answer_at = one_of answer_kinds

abbrev pub found_of : ℕ × List ℕ → Looked
found_of (stamp, results) = looks.Found stamp results

abbrev pub looked_kinds : List (ℕ × Reader Looked)
looked_kinds =
    (0, nothing looks.Absent) ∷ (1, made found_of (stamp_at then values_at MAX_ACTIONS)) ∷ []

unfoldable pub looked_at : Reader Looked
looked_at = one_of looked_kinds

abbrev pub message_of :
    ChainId × (ℕ × (ℕ × (ℕ × (List ℕ × (List NumberAt × List (List ℕ)))))) → Message
message_of (chain, (program, (hop, (stamp, (args, (numbers, results)))))) = record {
  chain = chain;
  program = program;
  hop = hop;
  stamp = stamp;
  args = args;
  numbers = numbers;
  results = results;
}

unfoldable pub message_at : Reader Message
message_at =
    made message_of (chain_at then byte_below MAX_PROGRAMS then byte_at then stamp_at
    then values_at MAX_PARAMETERS then numbers_at then result_lists_at)

abbrev pub begun_entry_of : Request × (ℕ × (ChainId × (List NumberAt × (ℕ × List ℕ)))) → BegunEntry
begun_entry_of (request, (seen, (chain, (numbers, (stamp, results))))) = record {
  request = request;
  seen = seen;
  chain = chain;
  numbers = numbers;
  stamp = stamp;
  results = results;
}

unfoldable pub begun_entry_at : Reader BegunEntry
begun_entry_at =
    made begun_entry_of (request_at then stamp_at then chain_at
    then numbers_at then stamp_at then values_at MAX_ACTIONS)

abbrev pub refused_entry_of : Request × (ℕ × (ℕ × ℕ)) → RefusedEntry
refused_entry_of (request, (seen, (need, stamp))) =
    record { request = request; seen = seen; need = need; stamp = stamp }

unfoldable pub refused_entry_at : Reader RefusedEntry
refused_entry_at =
    made refused_entry_of (request_at then stamp_at then byte_below MAX_ACTIONS then stamp_at)

abbrev pub hop_entry_of : Message × (ℕ × List ℕ) → HopEntry
hop_entry_of (message, (stamp, results)) =
    record { message = message; stamp = stamp; results = results }

unfoldable pub hop_entry_at : Reader HopEntry
hop_entry_at = made hop_entry_of (message_at then stamp_at then values_at MAX_ACTIONS)

-- the fields of a body behind that tag
abbrev pub fields_at : Tag → Reader Item
fields_at tags.Request = made items.Request request_at
fields_at tags.Look = made items.Look look_at
fields_at tags.Quit = nothing items.Quit
fields_at tags.Shut = nothing items.Shut
fields_at tags.Answer = made items.Answer answer_at
fields_at tags.Looked = made items.Looked looked_at
fields_at tags.Bye = nothing items.Bye
fields_at tags.Message = made items.Message message_at
fields_at tags.Begun = made (λ e. items.Entry (entries.Begun e)) begun_entry_at
fields_at tags.Refused = made (λ e. items.Entry (entries.Refused e)) refused_entry_at
fields_at tags.Hop = made (λ e. items.Entry (entries.Hop e)) hop_entry_at

-- a whole body: nothing is left after its fields
unfoldable pub body_at : Tag → List ℕ → Result Item DecodeFault
body_at tag bytes = do
  item ← fields_at tag bytes
  if length item.1 == 0 then Ok item.0 else Err faults.BadLength
