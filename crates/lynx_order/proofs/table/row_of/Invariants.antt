use Rattle.std.proofs.Common.{◌≡◌, map}
use Rattle.std.specs.List.{range_with_len}
use Rattle.lynx_order.specs.Touchings.{precede_at}
use Rattle.lynx_order.proofs.table.row_of.Given as goal

abbrev pub invariant-loop-one : goal.invariant-loop-one
invariant-loop-one l = l.row ≡ map (precede_at l.all l.other) (range_with_len 0 l.one)
