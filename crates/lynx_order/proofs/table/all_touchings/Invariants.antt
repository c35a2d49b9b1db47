use Rattle.std.proofs.Common.{◌≡◌, map, take}
use Rattle.lynx_order.specs.Touchings.{touchings_of}
use Rattle.lynx_order.proofs.table.all_touchings.Given as goal

abbrev pub invariant-loop-chain : goal.invariant-loop-chain
invariant-loop-chain l = l.all ≡ map (touchings_of l.set l.world.list) (take l.chain-index l.chains)
