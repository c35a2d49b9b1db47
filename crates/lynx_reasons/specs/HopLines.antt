-- The lines of a set's text on which its hops stand.
use Rattle.std.specs.Prelude.{ℕ, ◌+◌, List, [], ◌∷◌, ◌++◌, map, length, take, slice_get}
use Rattle.std.specs.Option.{option_map_or}
use Rattle.lynx_set.specs.declared.program.Program.{Program}
use Rattle.lynx_set.specs.Set.{Set}
use Rattle.lynx_set.specs.Text.{head_lines, hops_lines, program_words, programs_lines, range_words, tables_lines}
use Rattle.lynx_graph.specs.declared.meeting.Place.{Place}

-- the lines of a program before the hop of that number: its first line, its ranges, and the hops
-- before
abbrev pub lines_to_hop : List (List ℕ) → ℕ → List ℕ × Program → List (List (List ℕ))
lines_to_hop tables hop (name, program) =
    program_words name program ∷ map (range_words program.names) program.ranges
    ++ hops_lines tables program.names program.parameters (take hop program.hops)

-- the lines of the set's text before a hop
abbrev pub lines_before : Set → Place → List (List (List ℕ))
lines_before set place =
    head_lines set.version set.servers ++ tables_lines set.tables set.shards
    ++ programs_lines set.tables (take place.program set.programs)
    ++ option_map_or (lines_to_hop set.tables place.hop) (slice_get set.programs place.program) []

-- the line of a hop, counted from 1
abbrev pub line_of : Set → Place → ℕ
line_of set place = 1 + length (lines_before set place)
