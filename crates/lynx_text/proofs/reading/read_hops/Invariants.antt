use Rattle.std.proofs.Common.{◌≡◌, ◌-◌, ◌≤◌, length}
use Rattle.lynx_set.specs.Plain.{plain_set, plain_program}
use Rattle.lynx_text.specs.Parts.{parts, goes_hop, next_hop}
use Rattle.lynx_text.proofs.reading.read_hops.Given as goal

-- what is left decides
abbrev pub invariant-hops : goal.invariant-hops
invariant-hops l = record {
  shrinks : length l.lines ≤ length l.fn.lines;
  rest : parts goes_hop (next_hop (plain_set l.set)) (8 - length (plain_program l.program).hops) (plain_program l.program) l.lines
      ≡ parts goes_hop (next_hop (plain_set l.set)) (8 - length (plain_program l.fn.program).hops) (plain_program l.fn.program) l.fn.lines;
}

abbrev pub decreases-hops : goal.decreases-hops
decreases-hops l = length l.lines
