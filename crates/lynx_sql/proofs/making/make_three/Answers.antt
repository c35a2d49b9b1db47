use Rattle.std.proofs.Common.{arith}
use Rattle.sqlite.specs.State.{HasCleanDisk}
use Rattle.sqlite.specs.Held.{state}
use Rattle.sqlite.proofs.StateLemmas.{survives_then}
use Rattle.lynx_sql.proofs.CreateLemmas.{all_made}
use Rattle.lynx_sql.proofs.making.make_three.Goals as goal

pub returns-clause-ok : goal.returns-clause-ok
returns-clause-ok g c clean inside has =
    let old = c.args.tx.now.conn.now in
    let one = c.make_meta.new.tx.conn.now in
    let two = c.make_entry.new.tx.conn.now in
    let last = c.make_cell.new.tx.conn.now in
    let two_clean : HasCleanDisk (state g.S.Store two) = omega (arith, c.make_cell.ensures.survives.clean) in
    let one_clean : HasCleanDisk (state g.S.Store one) = omega (arith, c.make_entry.ensures.survives.clean) in
    all_made (state g.S.Store old) (state g.S.Store one) (state g.S.Store two) (state g.S.Store last) inside has
    (c.in_ok-make_meta.ensures.ok one_clean) (c.in_ok-make_entry.ensures.ok two_clean) (c.in_ok-make_cell.ensures.ok clean)

pub returns-clause-survives : goal.returns-clause-survives
returns-clause-survives g c =
    let first = survives_then _ _ _ _ _ (λ _. ⊥) (λ _ db none. none) (λ _ db none. none) c.make_meta.ensures.survives c.make_entry.ensures.survives in
    survives_then _ _ _ _ _ (λ _. ⊥) (λ _ db none. none) (λ _ db none. none) first c.make_cell.ensures.survives
