use Rattle.std.proofs.Common.{◌≡◌, drop}
use Rattle.lynx_chart.specs.Places.{place_from, place_of}
use Rattle.lynx_chart.proofs.places.place_of.Given as goal

-- the chain stands where it stands in what is left
abbrev pub invariant-loop-place : goal.invariant-loop-place
invariant-loop-place l = place_from l.place (drop l.place l.other-items) l.chain ≡ place_of l.explained l.chain
