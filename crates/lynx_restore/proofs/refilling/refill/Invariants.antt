use Rattle.lynx_keep.specs.HeldBack.{held_terms}
use Rattle.lynx_restore.proofs.Refillings.{IsRefilling}
use Rattle.lynx_restore.proofs.refilling.refill.Given as goal

abbrev pub invariant-loop-place : goal.invariant-loop-place
invariant-loop-place g l = IsRefilling (held_terms g.K.Keeper.terms) l.fn.server l.entries l.place l.server
