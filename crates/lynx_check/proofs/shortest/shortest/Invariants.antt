use Rattle.lynx_check.proofs.Bests.{IsBest}
use Rattle.lynx_check.proofs.shortest.shortest.Given as goal

abbrev pub invariant-loop-start : goal.invariant-loop-start
invariant-loop-start l = IsBest l.nodes l.start-index l.best
