use Rattle.lynx_reasons.specs.inner.Joinings.{AreJoined}
use Rattle.lynx_reasons.proofs.sift.Sift.leaves_none_mixed.Given as goal

-- what is noted of each program is so
abbrev pub invariant-loop-edge : goal.invariant-loop-edge
invariant-loop-edge l = AreJoined l.set l.culprit l.joining.programs.items
