use Rattle.std.proofs.Common.{◌∙◌}
use Rattle.lynx_worker.proofs.RouteLemmas.{pushed}
use Rattle.lynx_worker.proofs.routes.routes_to.Goals as goal

pub loop-number-preserved : goal.loop-number-preserved
loop-number-preserved c =
    let (are, lags, count) = c.loop-number.invariant in
    pushed c.loop-number.routes.items c.push.new.self.items c.new-in-loop-number.result c.loop-number.number c.in_ok-push.ensures.items are lags count
    (c.new-in-loop-number.ensures.to ∙ c.in-Some.ensures.value) c.new-in-loop-number.ensures.lags
