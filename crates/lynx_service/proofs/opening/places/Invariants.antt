use Rattle.lynx_service.proofs.Opened.{ArePlacesBelow}
use Rattle.lynx_service.proofs.opening.places.Given as goal

-- the places of the servers so far
abbrev pub invariant-loop-number : goal.invariant-loop-number
invariant-loop-number g l = ArePlacesBelow l.number l.places.items
