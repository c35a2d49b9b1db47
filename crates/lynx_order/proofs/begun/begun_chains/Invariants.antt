use Rattle.std.proofs.Common.{◌≡◌, take}
use Rattle.lynx_order.specs.inner.Begun.{begun_chains}
use Rattle.lynx_order.proofs.begun.begun_chains.Given as goal

abbrev pub invariant-loop-place : goal.invariant-loop-place
invariant-loop-place l = l.chains.items ≡ begun_chains (take l.place l.world.list)
