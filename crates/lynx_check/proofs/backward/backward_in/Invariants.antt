use Rattle.std.proofs.Common.{◌≡◌, drop}
use Rattle.lynx_check.specs.inner.Backward.{backward_in}
use Rattle.lynx_check.proofs.backward.backward_in.Given as goal

-- what is left decides
abbrev pub invariant-loop-entered : goal.invariant-loop-entered
invariant-loop-entered l = backward_in l.set l.ends (drop l.entered-index l.ends) ≡ backward_in l.set l.ends l.ends
