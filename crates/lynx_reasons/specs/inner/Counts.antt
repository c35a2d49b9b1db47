-- How many lines the parts of a set have.
use Rattle.std.specs.Prelude.{ℕ, ◌+◌, length, sum_by, take}
use Rattle.std.specs.Option.{option_map_or}
use Rattle.lynx_set.specs.declared.program.Hop.{Hop}
use Rattle.lynx_set.specs.declared.program.Program.{Program}
use Rattle.lynx_set.specs.Set.{Set}
use Rattle.lynx_set.specs.Lookups.{program_at}
use Rattle.lynx_graph.specs.declared.meeting.Place.{Place}

abbrev pub lines_of_hop : Hop → ℕ
lines_of_hop hop = 1 + length hop.actions

abbrev pub lines_of_program : Program → ℕ
lines_of_program program = 2 + length program.ranges + sum_by lines_of_hop program.hops

-- those before the hop of that number
abbrev pub lines_to_hop : Program → ℕ → ℕ
lines_to_hop program hop = 1 + length program.ranges + sum_by lines_of_hop (take hop program.hops)

abbrev pub lines_of_program_at : Set → ℕ → ℕ
lines_of_program_at set program =
    option_map_or (λ found. lines_of_program found) (program_at set program) 0

abbrev pub lines_to_hop_of : Set → Place → ℕ
lines_to_hop_of set place =
    option_map_or (λ found. lines_to_hop found place.hop) (program_at set place.program) 0
