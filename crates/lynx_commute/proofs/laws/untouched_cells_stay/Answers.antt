use Rattle.lynx_commute.proofs.Framing.{value_at-after}
use Rattle.lynx_commute.proofs.laws.untouched_cells_stay.Goals as goal

pub returns : goal.returns
returns c = value_at-after
