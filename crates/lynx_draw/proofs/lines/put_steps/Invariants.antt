use Rattle.std.proofs.Common.{◌≡◌, ◌+◌, ◌++◌, drop}
use Rattle.lynx_draw.specs.Lines.{step_lines}
use Rattle.lynx_draw.proofs.lines.put_steps.Given as goal

-- what is written and what is left are the whole
abbrev pub invariant-loop-number : goal.invariant-loop-number
invariant-loop-number l = l.out.items ++ step_lines l.set (l.number + 1) (drop l.number l.steps) ≡ l.fn.out.items ++ step_lines l.set 1 l.steps
