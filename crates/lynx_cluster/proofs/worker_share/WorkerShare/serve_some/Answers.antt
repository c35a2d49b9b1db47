use Rattle.std.proofs.Common.{List, subst, sym}
use Rattle.lynx_resting.specs.Resting.{settled_front}
use Rattle.lynx_worker.specs.declared.steps.Acknowledgement.{Acknowledgement}
use Rattle.lynx_cluster.specs.inner.Serving.{AreDone}
use Rattle.lynx_cluster.proofs.Dones.{settled_done}
use Rattle.lynx_cluster.proofs.worker_share.WorkerShare.serve_some.Goals as goal

pub returns : goal.returns
returns g c =
    settled_done c.settle-is_settled.result c.make_steps.new.state.here.history (settled_front c.settle-is_settled.new.state)
    c.make_steps.new.batch.handled.acknowledgements.items c.only_settled.result.acknowledgements.items
    (c.make_steps.ensures.done (subst (λ (acknowledgements : List Acknowledgement). AreDone c.args.state.now.here.history acknowledgements) (sym c.new.ensures.items) tt))
    c.settle-is_settled.ensures c.only_settled.ensures.settled c.only_settled.ensures.unsettled
