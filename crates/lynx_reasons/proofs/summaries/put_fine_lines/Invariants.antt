use Rattle.std.proofs.Common.{◌≡◌, ◌++◌, drop}
use Rattle.lynx_reasons.specs.Summaries.{fine_lines}
use Rattle.lynx_reasons.proofs.summaries.put_fine_lines.Given as goal

-- what is written and what is left are the whole
abbrev pub invariant-loop-leader : goal.invariant-loop-leader
invariant-loop-leader l =
    l.out.items ++ fine_lines l.set l.edges l.reason l.members (drop l.leader-index l.leaders)
    ≡ l.fn.out.items ++ fine_lines l.set l.edges l.reason l.members l.leaders
