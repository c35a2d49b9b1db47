use Rattle.std.proofs.Common.{arith}
use Rattle.sqlite.specs.State.{HasCleanDisk}
use Rattle.sqlite.specs.Held.{state}
use Rattle.lynx_sql.proofs.CommitLemmas.{on_ok}
use Rattle.lynx_sql.proofs.UpgradeLemmas.{adds_table}
use Rattle.lynx_sql.proofs.upgrade.add_acted.Goals as goal

pub returns-clause-ok : goal.returns-clause-ok
returns-clause-ok g c clean inside has =
    let old = state g.S.Store c.args.tx.now.conn.now in
    let one = state g.S.Store c.make_acted.new.tx.conn.now in
    let new = state g.S.Store c.insert_acts.new.tx.conn.now in
    let one_clean : HasCleanDisk one = omega (arith, c.insert_acts.ensures.survives.clean) in
    let made = c.in_ok-make_acted.ensures.ok one_clean inside has in
    on_ok c.insert_acts.result (λ more. adds_table old one new c.args.acts.now made more) (c.insert_acts.ensures.ok clean made.shown.mode made.shown.is_open made.schema)
