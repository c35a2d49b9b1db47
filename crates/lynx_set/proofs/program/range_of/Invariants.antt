use Rattle.std.proofs.Common.{◌≡◌, drop}
use Rattle.lynx_set.specs.Intervals.{range_of}
use Rattle.lynx_set.proofs.program.range_of.Given as goal

-- the ranges that are left decide
abbrev pub invariant-loop-range : goal.invariant-loop-range
invariant-loop-range l = range_of (drop l.range-index l.ranges) l.parameter ≡ range_of l.ranges l.parameter
