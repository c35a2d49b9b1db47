use Rattle.std.proofs.Common.{refl, drop, arith}
use Rattle.lynx_chart.specs.Messages.{ran_in, run_at}
use Rattle.lynx_chart.proofs.Rests.{first_further, first_here}
use Rattle.lynx_chart.proofs.messages.ran_in.Goals as goal

pub returns-in-Some : goal.returns-in-Some
returns-in-Some c =
    let chain = c.args.chain.now in
    let hop = c.args.hop in
    let list = c.args.world.now.list in
    first_here (ran_in chain hop) (run_at chain hop) list c.loop-place.place c.run_at.result (ran_in chain hop (drop c.args.from list)) c.in-Some.stamp
    (λ placed. refl) (omega arith) c.run_at.ensures c.in-Some.is c.loop-place.invariant

pub loop-place-preserved : goal.loop-place-preserved
loop-place-preserved c =
    let chain = c.args.chain.now in
    let hop = c.args.hop in
    let list = c.args.world.now.list in
    first_further (ran_in chain hop) (run_at chain hop) list c.loop-place.place c.run_at.result (ran_in chain hop (drop c.args.from list))
    (λ placed. refl) (omega arith) c.run_at.ensures c.in_default.is c.loop-place.invariant
