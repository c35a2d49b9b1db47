use Rattle.std.proofs.Common.{◌∙◌}
use Rattle.lynx_rules.proofs.Marks.{marked-visited}
use Rattle.lynx_rules.proofs.visits.visited.Goals as goal

pub returns : goal.returns
returns c = c.marked.ensures ∙ marked-visited c.args.set.now c.args.program _ _ c.hops.ensures c.visit_marks.ensures
