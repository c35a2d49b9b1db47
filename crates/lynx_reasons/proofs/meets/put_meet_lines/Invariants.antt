use Rattle.std.proofs.Common.{◌≡◌, ◌++◌, drop}
use Rattle.lynx_reasons.specs.Meets.{meet_lines}
use Rattle.lynx_reasons.proofs.meets.put_meet_lines.Given as goal

-- what is written and what is left are the whole
abbrev pub invariant-loop-edge : goal.invariant-loop-edge
invariant-loop-edge l = l.out.items ++ meet_lines l.set (drop l.edge-index l.edges) ≡ l.fn.out.items ++ meet_lines l.set l.edges
