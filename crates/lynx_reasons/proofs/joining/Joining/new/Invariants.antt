use Rattle.std.proofs.Common.{◌≡◌, map}
use Rattle.std.specs.List.{range_with_len}
use Rattle.lynx_reasons.specs.inner.Joinings.{single}
use Rattle.lynx_reasons.proofs.joining.Joining.new.Given as goal

-- each of the programs so far by itself
abbrev pub invariant-loop-group : goal.invariant-loop-group
invariant-loop-group l = l.programs.items ≡ map (single l.set) (range_with_len 0 l.group)
