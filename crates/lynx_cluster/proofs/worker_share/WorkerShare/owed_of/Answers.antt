use Rattle.std.proofs.Common.{◌∙◌, ap, length}
use Rattle.std.specs.Prelude.{not}
use Rattle.lynx_entry.specs.Entry.{History}
use Rattle.lynx_resting.specs.Resting.{settled_part}
use Rattle.lynx_worker.specs.declared.steps.Owed.{Owed}
use Rattle.lynx_cluster.proofs.Owings.{owes_found, owes_past, owes_unasked}
use Rattle.lynx_cluster.proofs.worker_share.WorkerShare.owed_of.Goals as goal
use Rattle.lynx_cluster.proofs.worker_share.WorkerShare.owed_of.Goals.{then-len-from, else-len-from+then-is_of, else-len-from+else-is_of}

pub returns-clause-owed : goal.returns-clause-owed
returns-clause-owed g c =
    let state = settled_part c.args.state.now in
    let owed : Owed = record { from = c.args.from; dues = c.if-len-from.dues; end = c.if-len-from.end; holds = not c.is_empty-holds.result } in
    let all = ap (λ (history : History). length history) c.settled.ensures.value in
    elim c.if-len-from.branch [
      | then-len-from w ↦ owes_past state owed (length c.settled.result.now) (ap (λ dues. dues.items) w.dues-is ∙ c.new-dues.ensures.items) w.end-is all w.if-len-from.true
      | else-len-from+then-is_of w ↦ owes_found state owed w.collect.new.dues.items w.collect.result (ap (λ dues. dues.items) w.dues-is) w.end-is w.collect.ensures.owed
      | else-len-from+else-is_of w ↦ owes_unasked state owed (ap (λ dues. dues.items) w.dues-is ∙ c.new-dues.ensures.items) w.end-is
    ]
