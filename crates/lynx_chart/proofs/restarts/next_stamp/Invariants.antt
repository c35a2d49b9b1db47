use Rattle.std.proofs.Common.{◌≡◌, drop}
use Rattle.lynx_chart.specs.Restarts.{next_stamp}
use Rattle.lynx_chart.proofs.restarts.next_stamp.Given as goal

-- it is the first in what is left
abbrev pub invariant-loop-place : goal.invariant-loop-place
invariant-loop-place l =
    next_stamp l.server (drop l.place l.world.list) ≡ next_stamp l.server (drop l.from l.world.list)
