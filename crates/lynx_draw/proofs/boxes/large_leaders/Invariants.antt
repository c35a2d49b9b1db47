use Rattle.std.proofs.Common.{◌≡◌, ◌++◌, drop, filter}
use Rattle.lynx_draw.specs.Boxes.{is_large}
use Rattle.lynx_draw.proofs.boxes.large_leaders.Given as goal

-- those that were added and those that are left to add are all
abbrev pub invariant-loop-leader : goal.invariant-loop-leader
invariant-loop-leader l =
    l.large ++ filter (is_large l.set l.members) (drop l.leader-index l.leaders) ≡ filter (is_large l.set l.members) l.leaders
