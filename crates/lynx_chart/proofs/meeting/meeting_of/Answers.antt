use Rattle.std.proofs.Common.{◌+◌, refl, drop, arith}
use Rattle.lynx_world.specs.Placed.{Placed}
use Rattle.lynx_chart.specs.Meetings.{meeting_from, meeting_of}
use Rattle.lynx_chart.proofs.Rests.{first_further, first_here}
use Rattle.lynx_chart.proofs.meeting.meeting_of.Goals as goal

pub returns-in-Some : goal.returns-in-Some
returns-in-Some c =
    let set = c.args.world.now.set in
    let list = c.args.world.now.list in
    let one = c.args.one.now in
    let other = c.args.other.now in
    let place = c.loop-place.place in
    first_here (meeting_of set one other) (λ (before : Placed). meeting_from set one other before (drop (place + 1) list)) list place c.in_ok-met.field-0
    (meeting_of set one other list) c.in-Some.met (λ before. refl) (omega arith) c.in_ok-met.ensures c.in-Some.is c.loop-place.invariant

pub loop-place-preserved : goal.loop-place-preserved
loop-place-preserved c =
    let set = c.args.world.now.set in
    let list = c.args.world.now.list in
    let one = c.args.one.now in
    let other = c.args.other.now in
    let place = c.loop-place.place in
    first_further (meeting_of set one other) (λ (before : Placed). meeting_from set one other before (drop (place + 1) list)) list place c.in_ok-met.field-0
    (meeting_of set one other list) (λ before. refl) (omega arith) c.in_ok-met.ensures c.in_default.is c.loop-place.invariant
