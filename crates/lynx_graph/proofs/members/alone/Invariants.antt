use Rattle.std.proofs.Common.{◌≡◌, map}
use Rattle.std.specs.List.{range_with_len}
use Rattle.lynx_graph.specs.inner.Joining.{by_itself}
use Rattle.lynx_graph.proofs.members.alone.Given as goal

-- the programs so far
abbrev pub invariant-loop-number : goal.invariant-loop-number
invariant-loop-number l = l.members.items ≡ map by_itself (range_with_len 0 l.number)
