use Rattle.lynx_weave.proofs.Ordered.{IsGoing, remaining}
use Rattle.lynx_weave.proofs.order.order_of.Given as goal

abbrev pub invariant-loop-number : goal.invariant-loop-number
invariant-loop-number l = record {
  going : IsGoing l.set l.servers l.order.items l.places.items;
}

abbrev pub decreases-loop-number : goal.decreases-loop-number
decreases-loop-number l = remaining l.servers l.places.items
