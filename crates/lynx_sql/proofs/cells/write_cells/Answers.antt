use Rattle.std.proofs.Common.{refl, ap, ◌∙◌, ◌≡◌, IsTrue, true, ℕ, arith, sym, subst, get_or, rules, ◌<◌, length}
use Rattle.sqlite.specs.State.{HasCleanDisk, Survives}
use Rattle.sqlite.specs.Held.{state}
use Rattle.sqlite.proofs.StateLemmas.{survives_then}
use Rattle.lynx_cells.specs.Database.{written, with_value}
use Rattle.lynx_cells.specs.Triples.{entries_of}
use Rattle.lynx_sql.specs.Steps.{WritesCells}
use Rattle.lynx_sql.proofs.CellChanges.{changes_then, changes_same, written_next}
use Rattle.lynx_sql.proofs.cells.write_cells.Goals as goal

pub loop-table-preserved : goal.loop-table-preserved
loop-table-preserved g c =
    let first = state g.S.Store c.args.tx.now.conn.now in
    let mid = state g.S.Store c.loop-table.tx.conn.now in
    let now = state g.S.Store c.write_cell.new.tx.conn.now in
    record {
      same_reference = c.write_cell.ensures.same_reference ∙ c.loop-table.invariant.same_reference;
      survives = survives_then first mid now _ _ (λ _. ⊥) (λ _ db none. none) (λ _ db none. none) c.loop-table.invariant.survives c.write_cell.ensures.survives;
      changed = λ clean up inside version has.
          let before : HasCleanDisk mid = omega (arith, c.write_cell.ensures.survives.clean) in
          let so_far = c.loop-table.invariant.changed before up inside version has in
          let step = c.in_ok-write_cell.ensures.ok clean so_far.on.shown.mode version (so_far.on.schema ∙ has) in
          let low : c.loop-table.table-index < length c.args.changes.now = omega arith in
          let at : c.from.result ≡ c.loop-table-item.result.0 = c.from.ensures ∙ c.number.ensures.value in
          changes_same first now _ _ (written_next c.args.changes.now c.loop-table.table-index c.from.result c.loop-table-item.result low c.loop-table-item.is at) (changes_then first mid now _ _ so_far step);
    }
