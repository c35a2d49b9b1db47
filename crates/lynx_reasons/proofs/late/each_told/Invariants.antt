use Rattle.std.specs.Prelude.{All}
use Rattle.lynx_reasons.specs.inner.Tellings.{IsTold}
use Rattle.lynx_reasons.proofs.late.each_told.Given as goal

abbrev pub invariant-loop-place : goal.invariant-loop-place
invariant-loop-place l = All (IsTold l.set) l.all.items
