-- The tests that decide whether a walk is closed and offends.
use Rattle.std.specs.Prelude.{Bool, false, not, ◌==◌, ◌&&◌, ℕ, List, [], ◌∷◌, Option}
use Rattle.std.specs.List.{list_any}
use Rattle.lynx_set.specs.Set.{Set}
use Rattle.lynx_graph.specs.declared.meeting.Place.{Place}
use Rattle.lynx_graph.specs.declared.visit.Visit.{Visit}
use Rattle.lynx_set.specs.Lookups.{origin_of}
use Rattle.lynx_graph.specs.Tests.{joins, same_server}

-- where the visit is entered, and where it is left
abbrev pub entrance_of : Visit → Place
entrance_of visit = record { program = visit.program; hop = visit.entered }

abbrev pub exit_of : Visit → Place
exit_of visit = record { program = visit.program; hop = visit.left }

abbrev pub joins_next : Set → Visit → Visit → Bool
joins_next set visit next = joins set (exit_of visit) (entrance_of next)

abbrev pub joins_around : Set → Visit → Visit → List Visit → Bool
joins_around set first visit [] = joins_next set visit first
joins_around set first visit (next ∷ rest) =
    joins_next set visit next && joins_around set first next rest

abbrev pub is_closed : Set → List Visit → Bool
is_closed set [] = false
is_closed set (only ∷ []) = false
is_closed set (first ∷ second ∷ rest) = joins_around set first first (second ∷ rest)

abbrev pub crosses : Visit → Bool
crosses visit = not (visit.entered == visit.left)

-- whether the visit's program has another origin
abbrev pub differs : Set → Option ℕ → Visit → Bool
differs set origin visit = not (same_server (origin_of set visit.program) origin)

-- whether some visit's program has another origin than the first one's
abbrev pub leaves_origin : Set → List Visit → Bool
leaves_origin set [] = false
leaves_origin set (first ∷ rest) = list_any (differs set (origin_of set first.program)) rest

-- whether the walk is closed and offends
abbrev pub offends : Set → List Visit → Bool
offends set walk = is_closed set walk && list_any crosses walk && leaves_origin set walk
