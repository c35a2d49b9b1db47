use Rattle.std.proofs.Common.{◌≡◌, drop}
use Rattle.lynx_chart.specs.Meetings.{meeting_of}
use Rattle.lynx_chart.proofs.meeting.meeting_of.Given as goal

-- the first meeting is that in what is left
abbrev pub invariant-loop-place : goal.invariant-loop-place
invariant-loop-place l = meeting_of l.world.set l.one l.other (drop l.place l.world.list) ≡ meeting_of l.world.set l.one l.other l.world.list
