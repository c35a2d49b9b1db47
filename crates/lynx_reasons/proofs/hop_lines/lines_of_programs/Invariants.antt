use Rattle.std.proofs.Common.{◌≡◌}
use Rattle.std.specs.Prelude.{sum_by}
use Rattle.std.specs.List.{range_with_len}
use Rattle.lynx_reasons.specs.inner.Counts.{lines_of_program_at}
use Rattle.lynx_reasons.proofs.hop_lines.lines_of_programs.Given as goal

-- the lines of the programs so far
abbrev pub invariant-loop-number : goal.invariant-loop-number
invariant-loop-number l = l.lines ≡ sum_by (lines_of_program_at l.set) (range_with_len 0 l.number)
