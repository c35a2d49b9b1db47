use Rattle.std.proofs.Common.{◌≡◌, ◌++◌, drop, map}
use Rattle.lynx_set.specs.Text.{text, range_words}
use Rattle.lynx_text.proofs.printing.put_ranges.Given as goal

abbrev pub invariant-loop-range : goal.invariant-loop-range
invariant-loop-range l = l.out.items ++ text (map (range_words l.names) (drop l.range-index l.ranges)) ≡ l.fn.out.items ++ text (map (range_words l.names) l.ranges)
