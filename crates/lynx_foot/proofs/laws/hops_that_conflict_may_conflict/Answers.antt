use Rattle.lynx_foot.proofs.ConflictLaws.{MayConflict-from_Conflicts}
use Rattle.lynx_foot.proofs.laws.hops_that_conflict_may_conflict.Goals as goal

pub returns : goal.returns
returns c = MayConflict-from_Conflicts
