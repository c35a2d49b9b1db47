use Rattle.lynx_weave.proofs.Parted.{woven_in_order}
use Rattle.lynx_weave.proofs.laws.woven_keeps_order.Goals as goal

pub returns : goal.returns
returns c = woven_in_order
