use Rattle.lynx_cells.proofs.Writes.{value_at-with_value_same}
use Rattle.lynx_cells.proofs.laws.read_back.Goals as goal

pub returns : goal.returns
returns c = value_at-with_value_same
