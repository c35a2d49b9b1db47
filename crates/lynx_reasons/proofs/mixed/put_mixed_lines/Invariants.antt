use Rattle.std.proofs.Common.{◌≡◌, ◌++◌, drop}
use Rattle.std.specs.List.{flat_map}
use Rattle.lynx_graph.specs.Groups.{leaders_of}
use Rattle.lynx_reasons.specs.Mixed.{mixed_text}
use Rattle.lynx_reasons.proofs.mixed.put_mixed_lines.Given as goal

-- what is written and what is left are the whole
abbrev pub invariant-loop-leader : goal.invariant-loop-leader
invariant-loop-leader l =
    l.out.items ++ flat_map (mixed_text l.set l.edges l.members) (drop l.leader-index (leaders_of l.members))
    ≡ l.fn.out.items ++ flat_map (mixed_text l.set l.edges l.members) (leaders_of l.members)
