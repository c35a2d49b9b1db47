use Rattle.std.proofs.Common.{ap, ◌∙◌, length}
use Rattle.lynx_order.proofs.Certificates.{order_held}
use Rattle.lynx_order.proofs.certificate.order_holds.Goals as goal

pub returns : goal.returns
returns c = λ holds.
    order_held c.args.count c.args.touches.now c.args.order.now c.as_slice-ranks.result.now (ap length c.as_slice-ranks.ensures.value ∙ c.in_ok-ranks.ensures)
    (c.inverts.ensures.0 c.if-not-inverts.false) (c.inverts-2.ensures.0 c.if-not-inverts-2.false) (c.rise.ensures holds)
