use Rattle.lynx_weave.specs.Servers.{histories_of}
use Rattle.lynx_weave.proofs.Leasts.{IsLeastBelow}
use Rattle.lynx_weave.proofs.order.least_next.Given as goal

abbrev pub invariant-loop-number : goal.invariant-loop-number
invariant-loop-number l = record {
  least : IsLeastBelow (histories_of l.servers) l.places l.number l.least;
}
