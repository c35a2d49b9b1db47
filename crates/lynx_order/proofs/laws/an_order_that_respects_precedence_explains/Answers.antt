use Rattle.lynx_order.proofs.Explains.{order_explains}
use Rattle.lynx_order.proofs.laws.an_order_that_respects_precedence_explains.Goals as goal

pub returns : goal.returns
returns c = order_explains
