use Rattle.std.proofs.Common.{◌≡◌, ◌++◌, drop}
use Rattle.std.specs.List.{flat_map}
use Rattle.lynx_graph.specs.Groups.{leaders_of}
use Rattle.lynx_reasons.specs.Groups.{group_line}
use Rattle.lynx_reasons.proofs.groups.put_group_lines.Given as goal

-- what is written and what is left are the whole
abbrev pub invariant-loop-leader : goal.invariant-loop-leader
invariant-loop-leader l =
    l.out.items ++ flat_map (group_line l.set l.edges l.reason l.members) (drop l.leader-index (leaders_of l.members))
    ≡ l.fn.out.items ++ flat_map (group_line l.set l.edges l.reason l.members) (leaders_of l.members)
