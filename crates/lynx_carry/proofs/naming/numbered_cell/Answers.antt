use Rattle.std.proofs.Common.{sym}
use Rattle.lynx_carry.proofs.Numbered.{numbered_by_name}
use Rattle.lynx_carry.proofs.naming.numbered_cell.Goals as goal

pub returns : goal.returns
returns c = numbered_by_name c.args.set.now c.args.cell.now c.in_ok-table.table (sym c.in_ok-table.ensures)
