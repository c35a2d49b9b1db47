use Rattle.lynx_order.specs.inner.Picks.{IsTrail}
use Rattle.lynx_order.proofs.Marks.{mark_count}
use Rattle.lynx_order.proofs.cycle.walk_back.Given as goal

abbrev pub invariant-back : goal.invariant-back
invariant-back l = IsTrail l.table l.left l.fresh.items l.path.items l.current

abbrev pub decreases-back : goal.decreases-back
decreases-back l = mark_count l.fresh.items
