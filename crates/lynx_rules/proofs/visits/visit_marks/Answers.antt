use Rattle.std.proofs.Common.{◌∙◌, length-set, true}
use Rattle.lynx_rules.proofs.Marks.{visits_more}
use Rattle.lynx_rules.proofs.visits.visit_marks.Goals as goal

pub loop-hop-preserved : goal.loop-hop-preserved
loop-hop-preserved c = (
  λ server inside.
      visits_more c.args.hops.now c.loop-hop.hop-index c.hop-item.result c.loop-hop.marks c.index.result server c.loop-hop-test.true
      c.hop-item.is c.index.ensures.value (rw c.loop-hop.invariant.1 c.index.ensures.in_range) (c.loop-hop.invariant.0 server inside),
  length-set c.loop-hop.marks c.index.result true ∙ c.loop-hop.invariant.1,
)
