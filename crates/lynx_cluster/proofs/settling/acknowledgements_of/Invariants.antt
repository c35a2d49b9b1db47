use Rattle.lynx_cluster.specs.inner.Serving.{AreDone}
use Rattle.lynx_cluster.proofs.settling.acknowledgements_of.Given as goal

abbrev pub invariant-loop-entry : goal.invariant-loop-entry
invariant-loop-entry g l = AreDone l.state.history l.acknowledgements.items
