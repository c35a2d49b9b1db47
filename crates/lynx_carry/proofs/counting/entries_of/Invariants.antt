use Rattle.std.proofs.Common.{◌≡◌, map}
use Rattle.std.specs.List.{range_with_len}
use Rattle.lynx_carry.specs.Counts.{entries_at}
use Rattle.lynx_carry.proofs.counting.entries_of.Given as goal

-- the servers so far are counted
abbrev pub invariant-loop-number : goal.invariant-loop-number
invariant-loop-number l = l.counts.items ≡ map (entries_at l.set l.requests) (range_with_len 0 l.number)
