use Rattle.lynx_worker.specs.Taking.{Takes}
use Rattle.lynx_worker.proofs.worker.Worker.take.Given as goal

abbrev pub invariant-loop : goal.invariant-loop
invariant-loop g l =
    Takes l.initial.self.ends l.initial.self.inbox.items l.self.ends l.self.inbox.items
