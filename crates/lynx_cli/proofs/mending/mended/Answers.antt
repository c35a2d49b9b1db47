use Rattle.lynx_cli.proofs.Mended.{none_so}
use Rattle.lynx_cli.proofs.mending.mended.Goals as goal

pub returns-else-branch-clause-none : goal.returns-else-branch-clause-none
returns-else-branch-clause-none c = none_so c.of_offending.result (c.in_ok-is_accepted.ensures.no c.if-branch.false)
