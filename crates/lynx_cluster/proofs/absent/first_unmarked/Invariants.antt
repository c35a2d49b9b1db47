use Rattle.std.proofs.Common.{◌≡◌, ◌<◌, ℕ, true}
use Rattle.lynx_cluster.specs.inner.Absent.{is_marked}
use Rattle.lynx_cluster.proofs.absent.first_unmarked.Given as goal

-- the numbers before have marks
abbrev pub invariant-loop-number : goal.invariant-loop-number
invariant-loop-number l = (other : ℕ) → other < l.number → is_marked l.is_here other ≡ true
