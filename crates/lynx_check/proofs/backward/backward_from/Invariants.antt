use Rattle.std.proofs.Common.{◌≡◌, drop}
use Rattle.lynx_check.specs.inner.Backward.{backward_from}
use Rattle.lynx_check.proofs.backward.backward_from.Given as goal

-- what is left decides
abbrev pub invariant-loop-left : goal.invariant-loop-left
invariant-loop-left l = backward_from l.set l.entered (drop l.left-index l.ends) ≡ backward_from l.set l.entered l.ends
