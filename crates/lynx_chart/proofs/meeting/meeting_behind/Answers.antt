use Rattle.std.proofs.Common.{◌+◌, refl, drop, arith}
use Rattle.lynx_chart.specs.Meetings.{meeting_behind, meeting_with}
use Rattle.lynx_chart.proofs.Rests.{first_further, first_here}
use Rattle.lynx_chart.proofs.meeting.meeting_behind.Goals as goal

pub returns-in-Some : goal.returns-in-Some
returns-in-Some c =
    let set = c.args.world.now.set in
    let list = c.args.world.now.list in
    let first = meeting_behind set c.args.other.now c.args.before.now c.args.touches.now in
    first_here first (meeting_with set c.args.other.now c.args.before.now c.args.touches.now) list c.loop-later.later c.in_ok-met.field-0
    (first (drop (c.args.place + 1) list)) c.in-Some.met (λ after. refl) (omega arith) c.in_ok-met.ensures c.in-Some.is c.loop-later.invariant

pub loop-later-preserved : goal.loop-later-preserved
loop-later-preserved c =
    let set = c.args.world.now.set in
    let list = c.args.world.now.list in
    let first = meeting_behind set c.args.other.now c.args.before.now c.args.touches.now in
    first_further first (meeting_with set c.args.other.now c.args.before.now c.args.touches.now) list c.loop-later.later c.in_ok-met.field-0
    (first (drop (c.args.place + 1) list)) (λ after. refl) (omega arith) c.in_ok-met.ensures c.in_default.is c.loop-later.invariant
