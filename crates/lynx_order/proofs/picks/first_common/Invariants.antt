use Rattle.lynx_order.specs.inner.Picks.{NoneCommon}
use Rattle.lynx_order.proofs.picks.first_common.Given as goal

abbrev pub invariant-loop-place : goal.invariant-loop-place
invariant-loop-place l = NoneCommon l.row l.left l.place
