use Rattle.std.proofs.Common.{◌<◌, ℕ}
use Rattle.lynx_order.specs.inner.Links.{PrecedesNext}
use Rattle.lynx_order.proofs.links.each_precedes.Given as goal

abbrev pub invariant-loop-place : goal.invariant-loop-place
invariant-loop-place l = (k : ℕ) → k < l.place → PrecedesNext l.set l.world.list l.chains l.first l.links k
