use Rattle.lynx_world.proofs.Origins.{origin_order}
use Rattle.lynx_world.proofs.laws.origin_order.Goals as goal

pub returns : goal.returns
returns c = origin_order
