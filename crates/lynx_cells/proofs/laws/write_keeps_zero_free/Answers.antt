use Rattle.lynx_cells.proofs.Writes.{IsZeroFree-with_value}
use Rattle.lynx_cells.proofs.laws.write_keeps_zero_free.Goals as goal

pub returns : goal.returns
returns c = IsZeroFree-with_value
