use Rattle.std.proofs.Common.{List}
use Rattle.lynx_world.specs.Placed.{Placed}
use Rattle.lynx_weave.specs.Servers.{histories_of}
use Rattle.lynx_weave.proofs.Taking.{IsCutTo, left}
use Rattle.lynx_weave.proofs.cutting.cut_servers.Given as goal

abbrev pub invariant-loop-number : goal.invariant-loop-number
invariant-loop-number l =
    (list : List Placed) × IsCutTo l.set (histories_of l.servers) l.places.items l.counts.items list

abbrev pub decreases-loop-number : goal.decreases-loop-number
decreases-loop-number l = left (histories_of l.servers) l.places.items
