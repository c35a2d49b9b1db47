use Rattle.std.proofs.Common.{◌≡◌, ◌++◌, drop}
use Rattle.std.specs.List.{flat_map}
use Rattle.lynx_draw.specs.Marks.{hop_marks}
use Rattle.lynx_draw.proofs.marks.put_program_marks.Given as goal

-- what is written and what is left are the whole
abbrev pub invariant-loop-hop : goal.invariant-loop-hop
invariant-loop-hop l =
    l.out.items ++ flat_map (hop_marks l.set l.twice l.program) (drop l.hop-index l.hop-items) ≡ l.fn.out.items ++ flat_map (hop_marks l.set l.twice l.program) l.hop-items
