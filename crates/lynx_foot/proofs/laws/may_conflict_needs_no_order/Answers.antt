use Rattle.lynx_foot.proofs.ConflictLaws.{MayConflict-swapped}
use Rattle.lynx_foot.proofs.laws.may_conflict_needs_no_order.Goals as goal

pub returns : goal.returns
returns c = MayConflict-swapped
