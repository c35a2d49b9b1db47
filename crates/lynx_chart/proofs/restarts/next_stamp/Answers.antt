use Rattle.std.proofs.Common.{refl, drop, arith}
use Rattle.lynx_chart.specs.Restarts.{next_stamp, stamp_at}
use Rattle.lynx_chart.proofs.Rests.{first_further, first_here}
use Rattle.lynx_chart.proofs.restarts.next_stamp.Goals as goal

pub returns-in-Some : goal.returns-in-Some
returns-in-Some c =
    let server = c.args.server in
    let list = c.args.world.now.list in
    first_here (next_stamp server) (stamp_at server) list c.loop-place.place c.stamp_at.result (next_stamp server (drop c.args.from list)) c.in-Some.stamp
    (λ placed. refl) (omega arith) c.stamp_at.ensures c.in-Some.is c.loop-place.invariant

pub loop-place-preserved : goal.loop-place-preserved
loop-place-preserved c =
    let server = c.args.server in
    let list = c.args.world.now.list in
    first_further (next_stamp server) (stamp_at server) list c.loop-place.place c.stamp_at.result (next_stamp server (drop c.args.from list))
    (λ placed. refl) (omega arith) c.stamp_at.ensures c.in_default.is c.loop-place.invariant
