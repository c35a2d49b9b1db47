use Rattle.std.proofs.Common.{◌≡◌, length}
use Rattle.lynx_order.proofs.ranks.ranks_of.Given as goal

abbrev pub invariant-loop-rank : goal.invariant-loop-rank
invariant-loop-rank l = length l.ranks.items ≡ l.count
