use Rattle.sqlite.specs.Held.{state}
use Rattle.lynx_sql.proofs.DeleteLemmas.{deletes_or_fails}
use Rattle.lynx_sql.proofs.cells.delete_cell.Goals as goal

pub returns-clause-ok : goal.returns-clause-ok
returns-clause-ok g c clean inside version has =
    deletes_or_fails (state g.S.Store c.args.tx.now.conn.now) (state g.S.Store c.execute.new.self.conn.now) version c.args.table c.args.key c.execute.result c.ranges.key.fits has
    (rw (c.params-to_sql.ensures, c.params-to_sql-2.ensures, c.as_slice.ensures, c.to_be_bytes-key.ensures) at (c.execute.ensures.runs clean inside))
