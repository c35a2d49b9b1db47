use Rattle.std.proofs.Common.{◌≡◌, ◌++◌, drop}
use Rattle.lynx_draw.specs.Steps.{steps_around}
use Rattle.lynx_draw.proofs.steps.add_round.Given as goal

-- the steps so far and those that are left are the whole
abbrev pub invariant-loop-next : goal.invariant-loop-next
invariant-loop-next l = l.steps ++ steps_around l.first l.stay (drop l.next-index l.rest) ≡ l.fn.steps ++ steps_around l.first l.first l.rest
