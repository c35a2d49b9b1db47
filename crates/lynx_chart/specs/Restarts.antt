-- The restarts of servers.
use Rattle.std.specs.Prelude.{Bool, true, false, not, ◌==◌, ℕ, List, [], ◌∷◌, ◌++◌, drop, if◌then◌else◌, length, Option, Some, None}
use Rattle.std.specs.Option.{option_or}
use Rattle.lynx_entry.specs.Entry.{stamp_of}
use Rattle.lynx_entry.specs.declared.answer.Answer.{Answer}
use Rattle.lynx_entry.specs.declared.answer.Answer.TheVariants.{Begun, Refused}
use Rattle.lynx_entry.specs.declared.answer.Delivered.{Delivered}
use Rattle.lynx_entry.specs.declared.answer.Delivered.TheVariants.{Done}
use Rattle.lynx_entry.specs.declared.event.Outcome.{Outcome}
use Rattle.lynx_entry.specs.declared.event.Outcome.TheVariants.{Answered, Delivered as DeliveredNow, Woken, Restarted}
use Rattle.lynx_world.specs.Placed.{Placed}
use Rattle.lynx_chart.specs.Rows.{row_of}
use Rattle.lynx_chart.specs.Shapes.{Shape, Restart}

-- an answer that comes with an entry
abbrev pub is_fresh : Answer → Bool
is_fresh (Begun chain stamp results again) = not again
is_fresh (Refused need stamp again) = not again
is_fresh answer = false

abbrev pub is_done : Delivered → Bool
is_done (Done stamp results next) = true
is_done delivered = false

-- an outcome that comes with an entry
abbrev pub adds_entry : Outcome → Bool
adds_entry (Answered answer) = is_fresh answer
adds_entry (DeliveredNow chain hop delivered) = is_done delivered
adds_entry (Woken chain hop delivered) = is_done delivered
adds_entry outcome = false

-- the entries that come behind an outcome
abbrev pub left_behind : Outcome → List Placed → List Placed
left_behind outcome list = if adds_entry outcome then drop 1 list else list

-- the stamp of an entry, if it is the server's, and of the first of these that is
abbrev pub stamp_at : ℕ → Placed → Option ℕ
stamp_at server placed =
    if placed.server == server then Some (stamp_of placed.entry) else None

abbrev pub next_stamp : ℕ → List Placed → Option ℕ
next_stamp server [] = None
next_stamp server (placed ∷ list) = option_or (stamp_at server placed) (next_stamp server list)

-- the row of that stamp, or the row behind all
abbrev pub row_at : List ℕ → Option ℕ → ℕ
row_at stamps None = length stamps
row_at stamps (Some stamp) = row_of stamps stamp

-- the shape of an outcome, if a server restarted: above its next entry
abbrev pub restart_shapes : List ℕ → List Placed → Outcome → List Shape
restart_shapes stamps list (Restarted server) =
    Restart server (row_at stamps (next_stamp server list)) ∷ []
restart_shapes stamps list outcome = []

-- the shapes of outcomes, of which those entries come
abbrev pub all_restarts : List ℕ → List Placed → List Outcome → List Shape
all_restarts stamps list [] = []
all_restarts stamps list (outcome ∷ outcomes) =
    restart_shapes stamps list outcome
    ++ all_restarts stamps (left_behind outcome list) outcomes
