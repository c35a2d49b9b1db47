use Rattle.lynx_worker.specs.Taking.{Takes}
use Rattle.lynx_worker.proofs.worker.Worker.take_round.Given as goal

abbrev pub invariant-loop-number : goal.invariant-loop-number
invariant-loop-number g l =
    Takes l.initial.self.ends l.initial.self.inbox.items l.self.ends l.self.inbox.items
