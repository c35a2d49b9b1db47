use Rattle.lynx_worker.specs.Unheard.{HearsAbsent}
use Rattle.lynx_worker.proofs.route.Flight.hear_absent.Given as goal

abbrev pub invariant-loop-place : goal.invariant-loop-place
invariant-loop-place l =
    HearsAbsent l.dues l.initial.self.unheard.sent.items l.self.unheard.sent.items
