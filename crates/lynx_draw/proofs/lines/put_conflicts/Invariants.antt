use Rattle.std.proofs.Common.{◌≡◌, ◌++◌, drop}
use Rattle.lynx_draw.specs.Lines.{conflict_lines}
use Rattle.lynx_draw.proofs.lines.put_conflicts.Given as goal

-- what is written and what is left are the whole
abbrev pub invariant-loop-edge : goal.invariant-loop-edge
invariant-loop-edge l = l.out.items ++ conflict_lines l.set l.steps (drop l.edge-index l.edges) ≡ l.fn.out.items ++ conflict_lines l.set l.steps l.edges
