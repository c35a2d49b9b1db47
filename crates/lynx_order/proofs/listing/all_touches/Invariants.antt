use Rattle.lynx_order.proofs.Certified.{HasBelow}
use Rattle.lynx_order.proofs.listing.all_touches.Given as goal

abbrev pub invariant-loop-place : goal.invariant-loop-place
invariant-loop-place l = HasBelow l.set l.world.list l.chains l.place l.all.items
