use Rattle.std.proofs.Common.{◌∙◌, sym, subst}
use Rattle.std.specs.Prelude.{IfSome}
use Rattle.lynx_order.specs.inner.Certificates.{HasTouches}
use Rattle.lynx_order.proofs.Certified.{given_order}
use Rattle.lynx_order.proofs.explaining.certified.Goals as goal

pub returns-in-Order-clause-order : goal.returns-in-Order-clause-order
returns-in-Order-clause-order c =
    let set = c.args.set.now in
    let list = c.args.world.now.list in
    let chains = c.as_slice-chains.result.now in
    given_order set list chains c.as_slice-touches.result.now c.as_slice.result.now c.certified_order.result c.requires
    (c.as_slice-chains.ensures ∙ c.from_vec-begun.ensures ∙ c.in_ok-begun_chains.ensures)
    (subst (HasTouches set list chains) (sym c.as_slice-touches.ensures.value)
    (subst (λ found. IfSome found (λ touches. HasTouches set list chains touches.items)) c.in-Some.is c.in_ok-touches.ensures))
    c.certified_order.ensures
