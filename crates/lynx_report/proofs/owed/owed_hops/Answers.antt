use Rattle.lynx_report.proofs.Owing.{owed_where_listed}
use Rattle.lynx_report.proofs.owed.owed_hops.Goals as goal

pub returns : goal.returns
returns c =
    owed_where_listed (λ owed. owed.items) c.args.world.now.set c.set.result.now c.args.world.now.list c.in_ok-chains.chains c.left_hops.result
    c.set.ensures.value c.set.ensures.legal c.in_ok-chains.ensures c.left_hops.ensures.ordered c.left_hops.ensures.left
