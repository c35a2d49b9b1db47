use Rattle.lynx_worker.specs.Taking.{TakesOut}
use Rattle.lynx_worker.proofs.worker.take_out.Given as goal

abbrev pub invariant-loop : goal.invariant-loop
invariant-loop l =
    TakesOut l.from l.initial.receiver l.initial.inbox.items l.receiver l.inbox.items
