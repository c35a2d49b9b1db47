use Rattle.std.proofs.Common.{◌≡◌, ◌++◌, drop}
use Rattle.lynx_reasons.specs.Summaries.{meeting_lines}
use Rattle.lynx_reasons.proofs.summaries.put_meetings.Given as goal

-- what is written and what is left are the whole
abbrev pub invariant-loop-edge : goal.invariant-loop-edge
invariant-loop-edge l = l.out.items ++ meeting_lines l.set (drop l.edge-index l.edges) ≡ l.fn.out.items ++ meeting_lines l.set l.edges
