use Rattle.std.specs.Prelude.{◌≡◌, ◌++◌, take}
use Rattle.lynx_worker.proofs.telling.add_acknowledgements.Given as goal

abbrev pub invariant-loop-acknowledgement : goal.invariant-loop-acknowledgement
invariant-loop-acknowledgement l =
    l.untold.items ≡ l.initial.untold.items ++ take l.acknowledgement-index l.acknowledgements
