use Rattle.sqlite.specs.Held.{state}
use Rattle.lynx_sql.proofs.ActLemmas.{adds_or_fails}
use Rattle.lynx_sql.proofs.acts.insert_row.Goals as goal

pub returns-clause-ok : goal.returns-clause-ok
returns-clause-ok g c clean inside has =
    adds_or_fails (state g.S.Store c.args.tx.now.conn.now) (state g.S.Store c.execute.new.self.conn.now)
    (record { origin = c.args.origin; index = c.args.index; hop = c.args.hop; place = c.args.place }) c.execute.result c.ranges.index.fits has
    (rw (c.params-to_sql.ensures, c.params-to_sql-2.ensures, c.params-to_sql-3.ensures, c.params-to_sql-4.ensures, c.as_slice.ensures, c.to_be_bytes-index.ensures) at (c.execute.ensures.runs clean inside))
