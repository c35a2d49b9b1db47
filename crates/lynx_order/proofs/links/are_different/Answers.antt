use Rattle.std.proofs.Common.{ap, ◌∙◌, length}
use Rattle.lynx_order.proofs.Certificates.{numbers_differ}
use Rattle.lynx_order.proofs.links.are_different.Goals as goal

pub returns : goal.returns
returns c = λ holds.
    numbers_differ c.args.count c.args.numbers.now c.as_slice.result.now (ap length c.as_slice.ensures.value ∙ c.in_ok-ranks.ensures) (c.inverts.ensures.0 holds)
