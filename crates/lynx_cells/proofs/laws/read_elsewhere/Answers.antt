use Rattle.lynx_cells.proofs.Writes.{value_at-with_value_other}
use Rattle.lynx_cells.proofs.laws.read_elsewhere.Goals as goal

pub returns : goal.returns
returns c = value_at-with_value_other
