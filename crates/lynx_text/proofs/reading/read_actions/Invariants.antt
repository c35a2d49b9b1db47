use Rattle.std.proofs.Common.{◌≡◌, ◌-◌, ◌≤◌, length}
use Rattle.lynx_set.specs.Plain.{plain_set, plain_program}
use Rattle.lynx_text.specs.Parts.{parts, goes_action, next_action}
use Rattle.lynx_text.proofs.reading.read_actions.Given as goal

-- what is left decides
abbrev pub invariant-actions : goal.invariant-actions
invariant-actions l = record {
  few : length l.actions ≤ 16;
  hops : l.program.hops ≡ l.fn.program.hops;
  shrinks : length l.lines ≤ length l.fn.lines;
  rest : parts goes_action (next_action (plain_set l.set) l.server) (16 - length l.actions) (plain_program l.program, l.actions) l.lines
      ≡ parts goes_action (next_action (plain_set l.set) l.server) (16 - length l.fn.actions) (plain_program l.fn.program, l.fn.actions) l.fn.lines;
}

abbrev pub decreases-actions : goal.decreases-actions
decreases-actions l = length l.lines
