use Rattle.std.proofs.Common.{◌≡◌, map, take}
use Rattle.lynx_order.specs.inner.ChainsAt.{chain_at}
use Rattle.lynx_order.proofs.explaining.chains_at.Given as goal

abbrev pub invariant-loop-place : goal.invariant-loop-place
invariant-loop-place l = l.found ≡ map (chain_at l.chains) (take l.place-index l.places)
