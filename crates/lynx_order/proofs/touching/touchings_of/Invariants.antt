use Rattle.std.proofs.Common.{◌≡◌, take}
use Rattle.lynx_order.specs.Touchings.{touchings_of}
use Rattle.lynx_order.proofs.touching.touchings_of.Given as goal

abbrev pub invariant-loop-place : goal.invariant-loop-place
invariant-loop-place l = l.touchings ≡ touchings_of l.set (take l.place l.world.list) l.chain
