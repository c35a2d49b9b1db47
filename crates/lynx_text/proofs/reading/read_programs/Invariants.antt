use Rattle.std.proofs.Common.{◌≡◌, ◌-◌, ◌≤◌, length}
use Rattle.lynx_set.specs.Plain.{plain_set}
use Rattle.lynx_text.specs.Parts.{parts, goes_program, next_program}
use Rattle.lynx_text.proofs.reading.read_programs.Given as goal

-- what is left decides
abbrev pub invariant-programs : goal.invariant-programs
invariant-programs l = record {
  few : length l.set.programs ≤ 64;
  rest : parts goes_program next_program (64 - length l.set.programs) (plain_set l.set) l.lines ≡ parts goes_program next_program 64 (plain_set l.fn.set) l.fn.lines;
}

abbrev pub decreases-programs : goal.decreases-programs
decreases-programs l = length l.lines
