use Rattle.sqlite.specs.Held.{state}
use Rattle.lynx_sql.proofs.PutLemmas.{writes_or_fails}
use Rattle.lynx_sql.proofs.cells.put_cell.Goals as goal

pub returns-clause-ok : goal.returns-clause-ok
returns-clause-ok g c clean inside version has =
    writes_or_fails (state g.S.Store c.args.tx.now.conn.now) (state g.S.Store c.execute.new.self.conn.now) version c.args.table c.args.key c.args.value c.execute.result c.requires.table c.ranges.key.fits c.ranges.value.fits c.requires.nonzero has
    (rw (c.params-to_sql.ensures, c.params-to_sql-2.ensures, c.params-to_sql-3.ensures, c.as_slice.ensures, c.as_slice-2.ensures, c.to_be_bytes-key.ensures, c.to_be_bytes-value.ensures) at (c.execute.ensures.runs clean inside))
