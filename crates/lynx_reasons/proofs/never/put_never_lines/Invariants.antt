use Rattle.std.proofs.Common.{◌≡◌, ◌++◌}
use Rattle.std.specs.List.{flat_map, range_with_len}
use Rattle.lynx_reasons.specs.Never.{never_text}
use Rattle.lynx_reasons.proofs.never.put_never_lines.Given as goal

-- the lines of the programs so far
abbrev pub invariant-loop-number : goal.invariant-loop-number
invariant-loop-number l = l.out.items ≡ l.fn.out.items ++ flat_map (never_text l.set) (range_with_len 0 l.number)
