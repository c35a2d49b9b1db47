use Rattle.std.proofs.Common.{◌≡◌, drop}
use Rattle.lynx_chart.specs.Messages.{ran_in}
use Rattle.lynx_chart.proofs.messages.ran_in.Given as goal

-- it ran where it ran in what is left
abbrev pub invariant-loop-place : goal.invariant-loop-place
invariant-loop-place l =
    ran_in l.chain l.hop (drop l.place l.world.list) ≡ ran_in l.chain l.hop (drop l.from l.world.list)
