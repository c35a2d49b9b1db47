use Rattle.std.proofs.lemmas.Result.{IfOk-weaker}
use Rattle.lynx_weave.specs.Cuts.{fronts}
use Rattle.lynx_weave.specs.Servers.{histories_of}
use Rattle.lynx_weave.proofs.Taking.{hop_may}
use Rattle.lynx_weave.proofs.cutting.may_take.Goals as goal

pub returns-in-Hop : goal.returns-in-Hop
returns-in-Hop c =
    IfOk-weaker c.is_sent.result _ _
    (λ taken both. hop_may c.args.set.now (fronts c.args.counts.now (histories_of c.args.servers.now)) c.args.entry.now c.in-Hop.ran taken c.in-Hop.is both) c.is_sent.ensures
