use Rattle.std.proofs.Common.{arith}
use Rattle.sqlite.specs.State.{HasCleanDisk}
use Rattle.sqlite.specs.Held.{state}
use Rattle.lynx_sql.specs.Contents.{title_of}
use Rattle.lynx_sql.proofs.MetaLemmas.{title_written}
use Rattle.lynx_sql.proofs.meta.write_title.Goals as goal

pub returns-clause-ok : goal.returns-clause-ok
returns-clause-ok g c clean inside version has none =
    let old = c.args.tx.now.conn.now in
    let one = c.insert_text.new.tx.conn.now in
    let two = c.insert_text-2.new.tx.conn.now in
    let last = c.insert_text-3.new.tx.conn.now in
    let two_clean : HasCleanDisk (state g.S.Store two) = omega (arith, c.insert_text-3.ensures.survives.clean) in
    let one_clean : HasCleanDisk (state g.S.Store one) = omega (arith, c.insert_text-2.ensures.survives.clean) in
    title_written (state g.S.Store old) (state g.S.Store one) (state g.S.Store two) (state g.S.Store last) version
    (title_of c.args.version.now c.args.server.now c.args.set.now) inside has none
    (λ on is. c.in_ok-insert_text.ensures.ok one_clean on version is) (λ on is. c.in_ok-insert_text-2.ensures.ok two_clean on version is) (λ on is. c.in_ok-insert_text-3.ensures.ok clean on version is)
