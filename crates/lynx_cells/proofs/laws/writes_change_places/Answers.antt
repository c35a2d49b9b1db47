use Rattle.lynx_cells.proofs.Writes.{with_value-with_value_other}
use Rattle.lynx_cells.proofs.laws.writes_change_places.Goals as goal

pub returns : goal.returns
returns c = with_value-with_value_other
