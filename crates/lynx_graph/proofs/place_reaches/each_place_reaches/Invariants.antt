use Rattle.std.proofs.Common.{◌≡◌, map, take}
use Rattle.lynx_graph.specs.Nodes.{place_reaches_of}
use Rattle.lynx_graph.proofs.place_reaches.each_place_reaches.Given as goal

abbrev pub invariant-loop-place : goal.invariant-loop-place
invariant-loop-place l = l.reached ≡ map (place_reaches_of l.set) (take l.place-index l.places)
