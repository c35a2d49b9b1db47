use Rattle.std.proofs.Common.{◌∙◌}
use Rattle.lynx_graph.proofs.Lists.{places_more}
use Rattle.lynx_graph.proofs.nodes.add_places.Goals as goal

pub loop-hop-preserved : goal.loop-hop-preserved
loop-hop-preserved c = c.in_ok-push.ensures.ok ∙ places_more c.args.program c.loop-hop.hop c.args.places.now c.loop-hop.places c.loop-hop.invariant
