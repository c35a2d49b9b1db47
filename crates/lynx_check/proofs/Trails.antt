-- A walk as a trail: from the hop that its first visit leaves by, through the other visits, back to where the first is entered.
use Rattle.std.proofs.Common.{◌≡◌, List, [], ◌∷◌, ◌++◌, Some}
use Rattle.lynx_set.specs.declared.program.Hop.{Hop}
use Rattle.lynx_set.specs.Set.{Set}
use Rattle.lynx_graph.specs.declared.meeting.Place.{Place}
use Rattle.lynx_graph.specs.declared.visit.Visit.{Visit}
use Rattle.lynx_graph.specs.Walks.{JoinsAround}
use Rattle.lynx_graph.specs.inner.Tests.{entrance_of, exit_of}
use Rattle.lynx_graph.proofs.Places.{Conflict, hop_left}
use Rattle.lynx_set.specs.Lookups.{hop_at}

-- each hop that is left conflicts with the hop that is entered next
abbrev pub Trail : Set → Place → List Visit → Place → Type 0
Trail set from [] to = Conflict set from to
Trail set from (visit ∷ visits) to = Conflict set from (entrance_of visit) × Trail set (exit_of visit) visits to

-- one visit more
pub Trail-push : (set : Set) (from : Place) (visits : List Visit) (visit : Visit) (to : Place) → Trail set from visits (entrance_of visit) → Conflict set (exit_of visit) to → Trail set from (visits ++ visit ∷ []) to
Trail-push set from [] visit to trail conflict = (trail, conflict)
Trail-push set from (first ∷ visits) visit to trail conflict = (trail.0, Trail-push set (exit_of first) visits visit to trail.1 conflict)

-- a trail begins at a hop of the set
pub Trail-begins : (set : Set) (from : Place) (visits : List Visit) (to : Place) → Trail set from visits to → (found : Hop) × (hop_at set from.program from.hop ≡ Some found)
Trail-begins set from [] to trail = hop_left set from to trail
Trail-begins set from (visit ∷ visits) to trail = hop_left set from (entrance_of visit) trail.0

-- round a circle
pub around_from_Trail : (set : Set) (first visit : Visit) (rest : List Visit) → Trail set (exit_of visit) rest (entrance_of first) → JoinsAround set first visit rest
around_from_Trail set first visit [] trail = trail
around_from_Trail set first visit (next ∷ rest) trail = (trail.0, around_from_Trail set first next rest trail.1)

pub Trail-from_around : (set : Set) (first visit : Visit) (rest : List Visit) → JoinsAround set first visit rest → Trail set (exit_of visit) rest (entrance_of first)
Trail-from_around set first visit [] around = around
Trail-from_around set first visit (next ∷ rest) around = (around.0, Trail-from_around set first next rest around.1)
