use Rattle.std.specs.Prelude.{◌≡◌, ◌++◌, List, drop, take}
use Rattle.lynx_worker.specs.declared.steps.Acknowledgement.{Acknowledgement}
use Rattle.lynx_worker.specs.Telling.{Tells}
use Rattle.lynx_worker.proofs.telling.tell.Given as goal

abbrev pub invariant-loop : goal.invariant-loop
invariant-loop g l = (stay : List Acknowledgement)
    × (l.untold.items ≡ drop l.counter l.initial.untold.items ++ stay)
    × Tells (take l.counter l.initial.untold.items) l.initial.ends stay l.ends
