use Rattle.lynx_cluster.specs.inner.Serving.{TellsDone}
use Rattle.lynx_cluster.proofs.worker_share.WorkerShare.make_steps.Given as goal

abbrev pub invariant-loop-made : goal.invariant-loop-made
invariant-loop-made g l =
    TellsDone l.initial.state.here.history l.initial.batch.handled.acknowledgements.items l.state.here.history l.batch.handled.acknowledgements.items
