use Rattle.std.specs.Prelude.{◌≡◌}
use Rattle.lynx_worker.specs.Sending.{behind_all, Sends}
use Rattle.lynx_worker.proofs.worker.Worker.send.Given as goal

abbrev pub invariant-loop-due : goal.invariant-loop-due
invariant-loop-due g l =
    Sends l.yielded l.initial.self.ends l.initial.self.routes l.self.ends l.self.routes
    × (l.self.reached ≡ behind_all l.initial.self.reached l.yielded)
    × (goal.iterator-loop-due g).can_next l.due-iterator
    × (goal.iterator-loop-due g).is_finite l.due-iterator
