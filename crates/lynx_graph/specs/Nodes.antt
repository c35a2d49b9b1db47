-- The hops of a set as a graph.
use Rattle.std.specs.Prelude.{Bool, ◌==◌, ◌&&◌, ℕ, List, map, filter, length}
use Rattle.std.specs.List.{enumerate_from, flat_map, range_with_len}
use Rattle.std.specs.Option.{option_map_or}
use Rattle.lynx_set.specs.Set.{Set}
use Rattle.lynx_set.specs.Lookups.{origin_of, program_at, server_at}
use Rattle.lynx_foot.specs.Reaches.{reaches_of}
use Rattle.lynx_foot.specs.Tests.{some_may_collide}
use Rattle.lynx_graph.specs.declared.meeting.Place.{Place}
use Rattle.lynx_graph.specs.declared.nodes.Exit.{Exit}
use Rattle.lynx_graph.specs.declared.nodes.Node.{Node}
use Rattle.lynx_graph.specs.declared.place_reaches.PlaceReaches.{PlaceReaches}
use Rattle.lynx_graph.specs.Tests.{joins, same_server}

-- the hops of a program
abbrev pub places_in : Set → ℕ → List Place
places_in set program =
    map (λ hop. record { program = program; hop = hop })
    (range_with_len 0 (option_map_or (λ known. length known.hops) (program_at set program) 0))

-- all hops, by program and then by number
abbrev pub places_of : Set → List Place
places_of set = flat_map (places_in set) (range_with_len 0 (length set.programs))

-- what is made of those that pass the test, each with its number
abbrev pub found : {X Y : Type 0} → (Y → Bool) → (ℕ × Y → X) → ℕ → List Y → List X
found test make first all =
    map make (filter (λ numbered. test numbered.1) (enumerate_from first all))

-- the hops of the same program
abbrev pub exits_of : List Place → Place → List Exit
exits_of places place =
    found (λ other. other.program == place.program)
    (λ numbered. record { hop = numbered.1.hop; node = numbered.0 }) 0 places

-- the hops with which the place may conflict
abbrev pub neighbours_of : Set → List Place → Place → List ℕ
neighbours_of set places place = found (joins set place) (λ numbered. numbered.0) 0 places

abbrev pub node_of : Set → List Place → Place → Node
node_of set places place = record {
  place = place;
  origin = origin_of set place.program;
  exits = exits_of places place;
  neighbours = neighbours_of set places place;
}

abbrev pub nodes_of : Set → List Node
nodes_of set = map (node_of set (places_of set)) (places_of set)

-- a hop with its server and its reaches
abbrev pub place_reaches_of : Set → Place → PlaceReaches
place_reaches_of set place = record {
  place = place;
  server = server_at set place.program place.hop;
  reaches = reaches_of set place.program place.hop;
}

abbrev pub each_place_reaches : Set → List PlaceReaches
each_place_reaches set = map (place_reaches_of set) (places_of set)

-- whether two hops may conflict, and the surroundings of a hop, told from such
abbrev pub meet : PlaceReaches → PlaceReaches → Bool
meet left right =
    same_server left.server right.server && some_may_collide left.reaches right.reaches

abbrev pub exits_among : List PlaceReaches → Place → List Exit
exits_among reached place =
    found (λ other. other.place.program == place.program)
    (λ numbered. record { hop = numbered.1.place.hop; node = numbered.0 }) 0 reached

abbrev pub neighbours_among : List PlaceReaches → PlaceReaches → List ℕ
neighbours_among reached one = found (meet one) (λ numbered. numbered.0) 0 reached

abbrev pub node_among : Set → List PlaceReaches → PlaceReaches → Node
node_among set reached one = record {
  place = one.place;
  origin = origin_of set one.place.program;
  exits = exits_among reached one.place;
  neighbours = neighbours_among reached one;
}
