use Rattle.std.proofs.Common.{◌≡◌, ◌++◌, take}
use Rattle.lynx_order.specs.inner.Listing.{chain_touches}
use Rattle.lynx_order.proofs.listing.add_touches.Given as goal

abbrev pub invariant-loop-touch : goal.invariant-loop-touch
invariant-loop-touch l = l.all.items ≡ l.fn.all.items ++ chain_touches l.chain l.place (take l.touch-index l.touches)
