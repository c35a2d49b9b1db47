use Rattle.lynx_weave.specs.Rebuilt.{histories_in}
use Rattle.lynx_restore.proofs.Storings.{AreStoredBelow}
use Rattle.lynx_restore.proofs.storing.store_histories.Given as goal

-- the servers so far have their stores
abbrev pub invariant-loop-number : goal.invariant-loop-number
invariant-loop-number g l = AreStoredBelow g.L.Keeper.terms g.S.Stores.store_terms l.folder l.set l.number (histories_in l.histories)
