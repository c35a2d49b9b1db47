use Rattle.lynx_world.proofs.Once.{once_and_in_order}
use Rattle.lynx_world.proofs.laws.once_and_in_order.Goals as goal

pub returns : goal.returns
returns c = once_and_in_order
