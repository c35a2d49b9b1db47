-- What happens to the servers of a set and to the sessions that ask them, over any number of stops.
use Rattle.std.specs.Prelude.{ℕ, List, [], ◌∷◌, ◌++◌, replicate, slice_get, slice_set, unwrap_or, Option, Some, None}
use Rattle.lynx_names.specs.declared.chain.ChainId.{ChainId}
use Rattle.lynx_names.specs.declared.limits.TheConstants.{MAX_HELD}
use Rattle.lynx_set.specs.Set.{Set}
use Rattle.lynx_entry.specs.declared.entry.Entry.{Entry}
use Rattle.lynx_entry.specs.declared.entry.Entry.TheVariants as entries
use Rattle.lynx_entry.specs.declared.event.Event.{Event}
use Rattle.lynx_entry.specs.declared.event.Event.TheVariants.{Begin, Restart}
use Rattle.lynx_entry.specs.declared.event.Outcome.{Outcome}
use Rattle.lynx_entry.specs.declared.event.Outcome.TheVariants as outcomes
use Rattle.lynx_entry.specs.declared.request.Request.{Request}
use Rattle.lynx_server.specs.Acts.{act_of}
use Rattle.lynx_world.specs.Placed.{Placed}
use Rattle.lynx_world.specs.Steps.{step}
use Rattle.lynx_world.specs.Worlds.{WorldState, history_of}
use Rattle.lynx_weave.specs.Told.{greatest_told, told_by}
use Rattle.lynx_weave.specs.declared.told.ToldItem.{ToldItem}
use Rattle.lynx_weave.specs.declared.told.ToldItem.TheVariants.{Seen}

-- What happens.
pub data Happening : Type 0 where
  -- a session asks a server for that, and is told the answer
  Asks : (session server : ℕ) → Request → Happening
  -- a session looks for that hop of a chain at a server, and is told what is there
  Looks : (session server : ℕ) → ChainId → ℕ → Happening
  -- that comes to the servers, and no session is told what it comes to
  Comes : Event → Happening
  -- A server stops, and is opened again over what it kept. The stop came within the call of that
  -- event and left its whole entry, nobody was told; or it left nothing of what was going on.
  Stops : (server : ℕ) → Option Event → Happening

-- What the servers of a set did and hold, and what each session was told.
pub record Past : Type 0 where
  pub world : WorldState
  pub told : List (List ToldItem)

-- The servers did that, and were opened: nothing is held, and so many sessions were told nothing.
-- With no entries nothing happened yet.
abbrev pub past_of : Set → List Placed → ℕ → Past
past_of set list sessions = record {
  world = record { set = set; list = list; held = replicate set.servers [] };
  told = replicate sessions [];
}

-- what the session was told
abbrev pub told_to : List (List ToldItem) → ℕ → List ToldItem
told_to told session = unwrap_or (slice_get told session) []

-- .. and then this
abbrev pub with_told : List (List ToldItem) → ℕ → List ToldItem → List (List ToldItem)
with_told told session items = slice_set told session (told_to told session ++ items)

-- what is told of what a begin at the server comes to
abbrev pub told_of : ℕ → Request → Outcome → List ToldItem
told_of server request (outcomes.Answered answer) = told_by server request answer
told_of server request outcome = []

-- what is told of the entry of a hop, if it is there
abbrev pub seen_of : ℕ → ChainId → ℕ → Option Entry → List ToldItem
seen_of server chain hop (Some (entries.Begun begun)) =
    Seen server chain hop begun.stamp begun.results ∷ []
seen_of server chain hop (Some (entries.Refused refused)) = []
seen_of server chain hop (Some (entries.Hop ran)) =
    Seen server chain hop ran.stamp ran.results ∷ []
seen_of server chain hop None = []

-- the world after an event, told by nobody
abbrev pub world_with : WorldState → Option Event → WorldState
world_with world None = world
world_with world (Some event) = (step MAX_HELD world event).world

-- a session asks with the greatest stamp that it was told
abbrev pub asked : Past → ℕ → ℕ → Request → Event
asked past session server request =
    Begin server request (greatest_told (told_to past.told session))

-- the past, and that
abbrev pub after : Past → Happening → Past
after past (Asks session server request) =
    let begun = step MAX_HELD past.world (asked past session server request) in
    record {
      world = begun.world;
      told = with_told past.told session (told_of server request begun.outcome);
    }
after past (Looks session server chain hop) = record past {
  told = with_told past.told session
      (seen_of server chain hop (act_of chain hop (history_of server past.world.list)));
}
after past (Comes event) = record past { world = (step MAX_HELD past.world event).world }
after past (Stops server event) = record past {
  world = (step MAX_HELD (world_with past.world event) (Restart server)).world;
}

abbrev pub after_all : Past → List Happening → Past
after_all past [] = past
after_all past (happening ∷ happenings) = after_all (after past happening) happenings
