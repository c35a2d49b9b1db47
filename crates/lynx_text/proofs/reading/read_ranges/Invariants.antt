use Rattle.std.proofs.Common.{◌≡◌, ◌-◌, ◌≤◌, length}
use Rattle.lynx_set.specs.Plain.{plain_program}
use Rattle.lynx_text.specs.Parts.{parts}
use Rattle.lynx_text.specs.Ranges.{goes_range, next_parameter, next_range}
use Rattle.lynx_text.proofs.reading.read_ranges.Given as goal

-- what is left decides
abbrev pub invariant-range_lines : goal.invariant-range_lines
invariant-range_lines l = record {
  count : length l.program.ranges ≤ next_parameter l.program.ranges;
  names : l.program.names ≡ l.fn.program.names;
  hops : l.program.hops ≡ l.fn.program.hops;
  shrinks : length l.lines ≤ length l.fn.lines;
  rest : parts (goes_range l.version) next_range (8 - length l.program.ranges) (plain_program l.program) l.lines ≡ parts (goes_range l.version) next_range 8 (plain_program l.fn.program) l.fn.lines;
}

abbrev pub decreases-range_lines : goal.decreases-range_lines
decreases-range_lines l = length l.lines
