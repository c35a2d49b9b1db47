use Rattle.lynx_foot.proofs.ConflictLaws.{Conflicts-swapped}
use Rattle.lynx_foot.proofs.laws.conflict_needs_no_order.Goals as goal

pub returns : goal.returns
returns c = Conflicts-swapped
