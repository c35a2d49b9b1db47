use Rattle.std.proofs.Common.{◌∙◌, ◌<◌, length, arith}
use Rattle.sqlite.specs.State.{HasCleanDisk}
use Rattle.sqlite.specs.Held.{state}
use Rattle.sqlite.proofs.StateLemmas.{survives_then}
use Rattle.lynx_sql.proofs.BatchLemmas.{entries_next}
use Rattle.lynx_sql.proofs.batch.insert_entries.Goals as goal

pub loop-body-preserved : goal.loop-body-preserved
loop-body-preserved g c =
    let first = state g.S.Store c.args.tx.now.conn.now in
    let mid = state g.S.Store c.loop-body.tx.conn.now in
    let now = state g.S.Store c.insert_entry.new.tx.conn.now in
    record {
      same_reference = c.insert_entry.ensures.same_reference ∙ c.loop-body.invariant.same_reference;
      next = omega (arith, c.loop-body.invariant.next);
      survives = survives_then first mid now _ _ (λ _. ⊥) (λ _ db none. none) (λ _ db none. none) c.loop-body.invariant.survives c.insert_entry.ensures.survives;
      added = λ clean up inside version has.
          let before : HasCleanDisk mid = omega (arith, c.insert_entry.ensures.survives.clean) in
          let so_far = c.loop-body.invariant.added before up inside version has in
          let step = c.in_ok-insert_entry.ensures.ok clean so_far.on.shown.mode version (so_far.on.schema ∙ has) in
          let low : c.loop-body.body-index < length c.args.bodies.now = c.loop-body-test.true in
          entries_next first mid now c.args.place c.loop-body.next c.args.bodies.now c.loop-body.body-index c.body-item.result c.as_slice.result.now low c.body-item.is c.as_slice.ensures.value c.loop-body.invariant.next so_far step;
    }
