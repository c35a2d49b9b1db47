use Rattle.lynx_cells.proofs.Writes.{applied-empty}
use Rattle.lynx_server.proofs.steps.RefusedStep.keep.Goals as goal

pub keep_other-requires-clause-changes : goal.keep_other-requires-clause-changes
keep_other-requires-clause-changes g c = rw c.new.ensures (applied-empty _)
