use Rattle.std.proofs.lemmas.Bool.Decides.{same_from_decides}
use Rattle.lynx_graph.proofs.Decides.{Decides-joins}
use Rattle.lynx_graph.proofs.meeting.joins.Goals as goal

pub returns : goal.returns
returns c = same_from_decides _ _ c.may_conflict.ensures (Decides-joins c.args.set.now c.args.left.now c.args.right.now)
