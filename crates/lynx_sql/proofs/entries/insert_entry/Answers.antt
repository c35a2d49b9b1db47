use Rattle.sqlite.specs.Held.{state}
use Rattle.lynx_sql.proofs.EntryLemmas.{adds_or_fails}
use Rattle.lynx_sql.proofs.entries.insert_entry.Goals as goal

pub returns-clause-ok : goal.returns-clause-ok
returns-clause-ok g c clean inside version has =
    adds_or_fails (state g.S.Store c.args.tx.now.conn.now) (state g.S.Store c.execute.new.self.conn.now) version c.args.place c.args.body.now c.execute.result has
    (rw (c.params-to_sql.ensures, c.params-to_sql-2.ensures) at (c.execute.ensures.runs clean inside))
