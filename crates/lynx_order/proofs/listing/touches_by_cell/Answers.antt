use Rattle.std.proofs.Common.{subst}
use Rattle.std.specs.Prelude.{IfSome}
use Rattle.lynx_order.specs.inner.Certificates.{HasTouches}
use Rattle.lynx_order.proofs.Certified.{has_permuted}
use Rattle.lynx_order.proofs.listing.touches_by_cell.Goals as goal

pub returns : goal.returns
returns c =
    has_permuted c.args.set.now c.args.world.now.list c.args.chains.now c.in-Some.touches.items c.sort_unstable_by_key.new.self.items c.sort_unstable_by_key.ensures.permutation
    (subst (λ found. IfSome found (λ touches. HasTouches c.args.set.now c.args.world.now.list c.args.chains.now touches.items)) c.in-Some.is c.in_ok-touches.ensures)
