use Rattle.sqlite.specs.Held.{state}
use Rattle.lynx_sql.proofs.TextLemmas.{sets_or_fails}
use Rattle.lynx_sql.proofs.meta.set_text.Goals as goal

pub returns-clause-ok : goal.returns-clause-ok
returns-clause-ok g c clean inside version has =
    sets_or_fails (state g.S.Store c.args.tx.now.conn.now) (state g.S.Store c.execute.new.self.conn.now) version c.args.id c.args.text.now c.execute.result has
    (rw c.to_sql.ensures at (c.execute.ensures.runs clean inside))
