use Rattle.lynx_order.specs.inner.Picks.{AreHints, ArePicked}
use Rattle.lynx_order.proofs.Marks.{mark_count}
use Rattle.lynx_order.proofs.picked.pick_all.Given as goal

abbrev pub invariant-loop-place : goal.invariant-loop-place
invariant-loop-place l = record {
  picked : ArePicked l.table l.order l.left.items;
  hints : AreHints l.table l.left.items l.hints.items;
}

abbrev pub decreases-loop-place : goal.decreases-loop-place
decreases-loop-place l = mark_count l.left.items
