use Rattle.lynx_cells.proofs.Writes.{with_value-with_value_same}
use Rattle.lynx_cells.proofs.laws.later_write_wins.Goals as goal

pub returns : goal.returns
returns c = with_value-with_value_same
