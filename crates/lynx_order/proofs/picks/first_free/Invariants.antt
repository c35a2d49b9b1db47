use Rattle.std.proofs.Common.{ℕ, ◌<◌}
use Rattle.lynx_order.specs.inner.Picks.{AreHints, IsMarked, LeftBefore}
use Rattle.lynx_order.proofs.picks.first_free.Given as goal

abbrev pub invariant-loop-place : goal.invariant-loop-place
invariant-loop-place l = record {
  hints : AreHints l.table l.left l.hints.items;
  each : (k : ℕ) → k < l.place → IsMarked l.left k → (one : ℕ) × LeftBefore l.table l.left one k;
}
