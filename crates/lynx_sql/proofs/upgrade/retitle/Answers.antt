use Rattle.std.proofs.Common.{arith, ◌∙◌}
use Rattle.sqlite.specs.State.{HasCleanDisk}
use Rattle.sqlite.specs.Held.{state}
use Rattle.lynx_sql.proofs.TextLemmas.{retitles}
use Rattle.lynx_sql.proofs.upgrade.retitle.Goals as goal

pub returns-clause-ok : goal.returns-clause-ok
returns-clause-ok g c clean inside version has =
    let old = state g.S.Store c.args.tx.now.conn.now in
    let one = state g.S.Store c.set_text.new.tx.conn.now in
    let new = state g.S.Store c.set_text-2.new.tx.conn.now in
    let one_clean : HasCleanDisk one = omega (arith, c.set_text-2.ensures.survives.clean) in
    let first = c.in_ok-set_text.ensures.ok one_clean inside version has in
    let second = c.in_ok-set_text-2.ensures.ok clean first.on.shown.mode version (first.on.schema ∙ has) in
    retitles old one new c.args.version.now c.args.set.now first second
