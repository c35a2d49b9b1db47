use Rattle.lynx_order.proofs.SomeOrder.{order_or_cycle}
use Rattle.lynx_order.proofs.laws.an_order_or_a_cycle_is_there.Goals as goal

pub returns : goal.returns
returns c = order_or_cycle
