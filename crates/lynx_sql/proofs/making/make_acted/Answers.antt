use Rattle.sqlite.specs.Held.{state}
use Rattle.lynx_sql.proofs.CreateLemmas.{makes_acted}
use Rattle.lynx_sql.proofs.making.make_acted.Goals as goal

pub returns-clause-ok : goal.returns-clause-ok
returns-clause-ok g c clean inside has =
    makes_acted (state g.S.Store c.args.tx.now.conn.now) (state g.S.Store c.execute.new.self.conn.now) c.execute.result has (c.execute.ensures.runs clean inside)
