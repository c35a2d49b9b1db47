use Rattle.std.proofs.Common.{◌≡◌, map}
use Rattle.std.specs.List.{range_with_len}
use Rattle.lynx_order.specs.Touchings.{row_of}
use Rattle.lynx_order.proofs.table.table_of.Given as goal

abbrev pub invariant-loop-other : goal.invariant-loop-other
invariant-loop-other l = l.table ≡ map (row_of l.all) (range_with_len 0 l.other)
