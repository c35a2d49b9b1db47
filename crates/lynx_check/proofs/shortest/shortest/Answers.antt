use Rattle.std.proofs.Common.{◌+◌, List, Option, sym, subst}
use Rattle.lynx_graph.specs.declared.visit.Visit.{Visit}
use Rattle.lynx_check.proofs.Bests.{IsBest, IsBest-more}
use Rattle.lynx_check.proofs.shortest.shortest.Goals as goal

pub loop-start-preserved : goal.loop-start-preserved
loop-start-preserved c =
    subst (λ (best : Option (List Visit)). IsBest c.args.nodes.now (c.loop-start.start-index + 1) best) (sym c.better-best.ensures)
    (IsBest-more c.args.nodes.now c.loop-start.start-index c.start-item.result c.loop-start.best c.limit_below.result c.in_ok-outcome.outcome c.loop-start-test.true c.start-item.is
    c.loop-start.invariant c.limit_below.ensures.0 c.in_ok-outcome.ensures)
