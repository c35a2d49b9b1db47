-- The whole chart of a run.
use Rattle.std.specs.Prelude.{ℕ, List, [], ◌∷◌, ◌++◌, decimal, length}
use Rattle.std.specs.List.{flat_map}
use Rattle.lynx_set.specs.Set.{Set}
use Rattle.lynx_entry.specs.declared.event.Outcome.{Outcome}
use Rattle.lynx_order.specs.declared.explained.Explained.{Explained}
use Rattle.lynx_world.specs.Placed.{Placed}
use Rattle.lynx_chart.specs.Captions.{style_text}
use Rattle.lynx_chart.specs.Chains.{Given, all_chains, refusal_shapes}
use Rattle.lynx_chart.specs.Fates.{notices_of}
use Rattle.lynx_chart.specs.Frames.{frame, height_of, last_line, notes, width_of}
use Rattle.lynx_chart.specs.Links.{all_links}
use Rattle.lynx_chart.specs.Messages.{rows_with, sent_in}
use Rattle.lynx_chart.specs.Restarts.{all_restarts}
use Rattle.lynx_chart.specs.Rows.{stamps_of}
use Rattle.lynx_chart.specs.Shapes.{Shape, drawn}
use Rattle.lynx_chart.specs.Values.{filled}
use Rattle.lynx_chart.specs.declared.templates.TheConstants.{DESCRIBED, ENDS, OPENING}

-- its first line, by its width and height
abbrev pub opening : ℕ → ℕ → List ℕ
opening width height =
    filled OPENING.now (decimal width ∷ decimal height ∷ decimal width ∷ decimal height ∷ [])

abbrev pub described : List ℕ → List ℕ
described line = filled DESCRIBED.now (line ∷ [])

-- what comes before its shapes: the last line of the run as a whole, and how all is drawn
abbrev pub head_of : ℕ → ℕ → Explained → List ℕ
head_of servers rows explained =
    opening (width_of servers) (height_of rows) ++ described (last_line explained) ++ style_text

-- the shapes of what was refused, of chains, of restarts and of links, of which each is drawn over
-- those before
abbrev pub event_shapes : Given → List Placed → List Outcome → List Shape
event_shapes by list outcomes =
    flat_map (refusal_shapes by.set by.explained by.stamps) list
    ++ (all_chains by list ++ (all_restarts by.stamps list outcomes
    ++ all_links by.set list by.stamps by.explained))

-- all its shapes, where there are so many rows
abbrev pub all_shapes : Given → ℕ → List Placed → List Outcome → List Shape
all_shapes by rows list outcomes =
    notes by.explained ++ (frame by.set.servers rows ++ event_shapes by list outcomes)

-- what a run is drawn by
abbrev pub given_of : Set → List Placed → List Outcome → Explained → Given
given_of set list outcomes explained = record {
  set = set;
  explained = explained;
  stamps = stamps_of list;
  notices = notices_of outcomes;
  messages = sent_in set (stamps_of list) list;
}

abbrev pub rows_of : Given → ℕ
rows_of by = rows_with (length by.stamps) by.messages

-- a chart, by what it is drawn by
abbrev pub chart_by : Given → List Placed → List Outcome → List ℕ
chart_by by list outcomes =
    head_of by.set.servers (rows_of by) by.explained
    ++ (drawn (all_shapes by (rows_of by) list outcomes) ++ ENDS.now)

abbrev pub chart_of : Set → List Placed → List Outcome → Explained → List ℕ
chart_of set list outcomes explained =
    chart_by (given_of set list outcomes explained) list outcomes
