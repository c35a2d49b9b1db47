-- The messages that were sent, each with the box of its hop: that of the entry in which it ran, or
-- one below all rows.
use Rattle.std.specs.Prelude.{Bool, false, ◌&&◌, ◌==◌, ℕ, ◌+◌, List, [], ◌∷◌, ◌++◌, codes, count_by, if◌then◌else◌, is_none, length, max, Option, Some, None, option_map, option_to_list}
use Rattle.std.specs.Option.{option_or}
use Rattle.lynx_names.specs.declared.chain.ChainId.{ChainId}
use Rattle.lynx_set.specs.Set.{Set}
use Rattle.lynx_set.specs.Lookups.{program_name}
use Rattle.lynx_entry.specs.Entry.{stamp_of}
use Rattle.lynx_entry.specs.declared.entry.Entry.{Entry}
use Rattle.lynx_entry.specs.declared.entry.Entry.TheVariants.{Begun, Refused, Hop}
use Rattle.lynx_entry.specs.declared.message.Message.{Message}
use Rattle.lynx_rules.specs.Deliveries.{same_chain}
use Rattle.lynx_rules.specs.Messages.{next_message}
use Rattle.lynx_world.specs.Placed.{Placed}
use Rattle.lynx_world.specs.Steps.{destination_of}
use Rattle.lynx_chart.specs.Labels.{owes_text}
use Rattle.lynx_chart.specs.Rows.{row_of, spot_at}
use Rattle.lynx_chart.specs.Shapes.{Shape, Boxed}
use Rattle.lynx_chart.specs.declared.messages.Sent.{Sent}

-- in the entry that hop of the chain ran
abbrev pub is_run : ChainId → ℕ → Entry → Bool
is_run chain hop (Begun begun) = false
is_run chain hop (Refused refused) = false
is_run chain hop (Hop ran) = same_chain ran.message.chain chain && ran.message.hop == hop

-- the hop of a message to that server is owed
abbrev pub is_owed_at : ℕ → Sent → Bool
is_owed_at server sent = sent.is_owed && sent.to.column == server

-- the row of a hop that a server owes: below all rows, and below the hops that it owed before
abbrev pub owed_row : ℕ → List Sent → ℕ → ℕ
owed_row rows before server = rows + count_by (is_owed_at server) before

abbrev pub hop_row : List ℕ → List Sent → ℕ → Option ℕ → ℕ
hop_row stamps before server None = owed_row (length stamps) before server
hop_row stamps before server (Some stamp) = row_of stamps stamp

-- a message behind those, to a server, with the stamp at which its hop ran, if it did
abbrev pub sent_to : List ℕ → List Sent → ℕ → Message → ℕ → Option ℕ → Sent
sent_to stamps before sender message server ran = record {
  from = spot_at stamps sender message.stamp;
  to = record { column = server; row = hop_row stamps before server ran };
  chain = message.chain;
  program = message.program;
  hop = message.hop;
  is_owed = is_none ran;
}

-- the stamp of an entry, if in it that hop of the chain ran
abbrev pub run_at : ChainId → ℕ → Placed → Option ℕ
run_at chain hop placed =
    if is_run chain hop placed.entry then Some (stamp_of placed.entry) else None

-- the stamp of the first of these entries in which that hop of the chain ran, if it did
abbrev pub ran_in : ChainId → ℕ → List Placed → Option ℕ
ran_in chain hop [] = None
ran_in chain hop (placed ∷ list) = option_or (run_at chain hop placed) (ran_in chain hop list)

abbrev pub sent_as : Set → List ℕ → List Sent → ℕ → List Placed → Message → Sent
sent_as set stamps before sender list message =
    sent_to stamps before sender message (destination_of set message)
    (ran_in message.chain message.hop list)

-- the message that an entry sends, if it sends one; its hop runs in one of those behind
abbrev pub sent_by : Set → List ℕ → List Sent → Placed → List Placed → List Sent
sent_by set stamps before placed list =
    option_to_list (option_map (sent_as set stamps before placed.server list)
    (next_message set placed.entry))

-- all messages, in the order of the entries that sent them, behind those
abbrev pub sent_behind : Set → List ℕ → List Sent → List Placed → List Sent
sent_behind set stamps before [] = before
sent_behind set stamps before (placed ∷ list) =
    sent_behind set stamps (before ++ sent_by set stamps before placed list) list

abbrev pub sent_in : Set → List ℕ → List Placed → List Sent
sent_in set stamps list = sent_behind set stamps [] list

-- so many rows and those of the hops that are owed
abbrev pub rows_with : ℕ → List Sent → ℕ
rows_with rows [] = rows
rows_with rows (sent ∷ messages) = rows_with (max rows (sent.to.row + 1)) messages

-- the box of a hop that is owed
abbrev pub owed_box : Set → Sent → Shape
owed_box set sent =
    Boxed (codes "owed") sent.to []
    (owes_text sent.chain sent.hop ∷ program_name set sent.program ∷ [] ∷ [] ∷ [])
