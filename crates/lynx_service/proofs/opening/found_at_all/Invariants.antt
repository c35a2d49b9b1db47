use Rattle.lynx_service.proofs.Opened.{AreFoundSoFar}
use Rattle.lynx_service.proofs.opening.found_at_all.Given as goal

-- what was found at the places so far, and the other places are left
abbrev pub invariant-loop-place : goal.invariant-loop-place
invariant-loop-place g l = AreFoundSoFar l.fn.places.items l.place-iterator.rest.items l.found.items
