use Rattle.lynx_weave.specs.Rebuilt.{histories_in}
use Rattle.lynx_weave.proofs.Loadings.{FindsBelow}
use Rattle.lynx_weave.proofs.gathering.load_all.Given as goal

abbrev pub invariant-loop-number : goal.invariant-loop-number
invariant-loop-number g l = FindsBelow g.K.Keeper.terms l.fn.keepers l.keepers l.number (histories_in l.histories.items)
