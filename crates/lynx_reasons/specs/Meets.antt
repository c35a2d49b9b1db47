-- The lines of hops that meet.
use Rattle.std.specs.Prelude.{ℕ, List, [], ◌∷◌, ◌++◌, codes, decimal}
use Rattle.std.specs.List.{flat_map}
use Rattle.std.specs.Option.{option_map_or}
use Rattle.lynx_lex.specs.Lines.{spaced, with_feed}
use Rattle.lynx_set.specs.Set.{Set}
use Rattle.lynx_set.specs.Lookups.{program_name, server_at}
use Rattle.lynx_graph.specs.declared.meeting.Place.{Place}
use Rattle.lynx_graph.specs.declared.edges.Edge.{Edge}
use Rattle.lynx_graph.specs.Tables.{tables_met}
use Rattle.lynx_reasons.specs.HopLines.{line_of}

-- a hop: its program, and its number from 0
abbrev pub place_text : Set → Place → List ℕ
place_text set place = 32 ∷ program_name set place.program ++ 32 ∷ decimal place.hop

-- its server
abbrev pub server_text : Set → Place → List ℕ
server_text set place =
    option_map_or (λ server. codes " server " ++ decimal server)
    (server_at set place.program place.hop) []

-- the tables in which two hops may conflict
abbrev pub tables_text : Set → Place → Place → List ℕ
tables_text set left right = codes " table" ++ spaced (tables_met set left right)

-- the lines of the set's text on which they stand
abbrev pub lines_text : Set → Place → Place → List ℕ
lines_text set left right =
    codes " lines " ++ decimal (line_of set left) ++ 32 ∷ decimal (line_of set right)

-- two hops that may conflict, and their server
abbrev pub hops_text : Set → Edge → List ℕ
hops_text set edge =
    place_text set edge.left ++ place_text set edge.right ++ server_text set edge.left

-- two hops that may conflict, and where they do
abbrev pub pair_text : Set → Edge → List ℕ
pair_text set edge =
    hops_text set edge ++ tables_text set edge.left edge.right
    ++ lines_text set edge.left edge.right

-- the line of two hops that may conflict
abbrev pub meet_line : Set → Edge → List ℕ
meet_line set edge = with_feed (codes "meet" ++ pair_text set edge)

abbrev pub meet_lines : Set → List Edge → List ℕ
meet_lines set edges = flat_map (meet_line set) edges
