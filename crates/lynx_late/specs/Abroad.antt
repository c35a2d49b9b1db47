-- Hops that may conflict with hops of programs of other origins.
use Rattle.std.specs.Prelude.{Bool, not, ◌&&◌, List, filter}
use Rattle.std.specs.List.{list_any}
use Rattle.lynx_set.specs.Set.{Set}
use Rattle.lynx_set.specs.Lookups.{origin_of}
use Rattle.lynx_graph.specs.Blocks.{Meets}
use Rattle.lynx_graph.specs.Nodes.{places_of}
use Rattle.lynx_graph.specs.Tests.{joins, same_server}
use Rattle.lynx_graph.specs.declared.meeting.Place.{Place}

-- the hop may conflict with some hop of a program of another origin
abbrev pub ReachesAbroad : Set → Place → Type 0
ReachesAbroad set place = (other : Place) × Meets set place other

-- the programs of the hops are of different origins
abbrev pub are_apart : Set → Place → Place → Bool
are_apart set left right =
    not (same_server (origin_of set left.program) (origin_of set right.program))

-- the hops may conflict, and their programs are of different origins
abbrev pub meets : Set → Place → Place → Bool
meets set left right = joins set left right && are_apart set left right

-- the hops of programs of other origins that the hop may conflict with, in the set's order
abbrev pub hops_abroad : Set → Place → List Place
hops_abroad set place = filter (meets set place) (places_of set)

-- the hop may conflict with one of them
abbrev pub reaches_abroad : Set → Place → Bool
reaches_abroad set place = list_any (meets set place) (places_of set)
