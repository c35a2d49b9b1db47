use Rattle.std.proofs.Common.{◌≡◌, ◌+◌, drop}
use Rattle.lynx_chart.specs.Meetings.{meeting_behind}
use Rattle.lynx_chart.proofs.meeting.meeting_behind.Given as goal

-- the first meeting is that with what is left
abbrev pub invariant-loop-later : goal.invariant-loop-later
invariant-loop-later l =
    meeting_behind l.world.set l.other l.before l.touches (drop l.later l.world.list)
    ≡ meeting_behind l.world.set l.other l.before l.touches (drop (l.place + 1) l.world.list)
