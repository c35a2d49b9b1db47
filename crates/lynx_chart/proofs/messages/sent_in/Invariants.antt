use Rattle.std.proofs.Common.{◌≡◌, drop}
use Rattle.lynx_chart.specs.Messages.{sent_behind, sent_in}
use Rattle.lynx_chart.proofs.messages.sent_in.Given as goal

-- those of what is left come behind those so far
abbrev pub invariant-loop-place : goal.invariant-loop-place
invariant-loop-place l =
    sent_behind l.world.set l.stamps l.messages.items (drop l.place l.world.list) ≡ sent_in l.world.set l.stamps l.world.list
