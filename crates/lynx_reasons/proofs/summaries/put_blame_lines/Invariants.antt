use Rattle.std.proofs.Common.{◌≡◌, ◌++◌, drop}
use Rattle.lynx_reasons.specs.Summaries.{blame_lines}
use Rattle.lynx_reasons.proofs.summaries.put_blame_lines.Given as goal

-- what is written and what is left are the whole
abbrev pub invariant-loop-culprit : goal.invariant-loop-culprit
invariant-loop-culprit l = l.out.items ++ blame_lines l.set (drop l.culprit-index l.found) ≡ l.fn.out.items ++ blame_lines l.set l.found
