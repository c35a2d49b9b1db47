use Rattle.std.proofs.Common.{ℕ, ◌<◌}
use Rattle.lynx_order.specs.inner.Picks.{IsMarked}
use Rattle.lynx_order.proofs.picks.first_marked.Given as goal

abbrev pub invariant-loop-place : goal.invariant-loop-place
invariant-loop-place l = (k : ℕ) → k < l.place → IsMarked l.marks k → ⊥
