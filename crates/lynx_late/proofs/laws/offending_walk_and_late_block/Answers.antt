use Rattle.lynx_late.proofs.Late.{late_of_walk, walk_of_late}
use Rattle.lynx_late.proofs.laws.offending_walk_and_late_block.Goals as goal

pub returns : goal.returns
returns c = λ set. (λ walk. late_of_walk set walk.0 walk.1, λ late. walk_of_late set late.0 late.1)
