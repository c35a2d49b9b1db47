use Rattle.lynx_order.proofs.Judged.{no_cycle_accepted}
use Rattle.lynx_order.proofs.laws.no_cycle_where_accepted.Goals as goal

pub returns : goal.returns
returns c = no_cycle_accepted
