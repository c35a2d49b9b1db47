use Rattle.std.proofs.Common.{◌∙◌, ◌<◌, length, arith}
use Rattle.sqlite.specs.State.{HasCleanDisk}
use Rattle.sqlite.specs.Held.{state}
use Rattle.sqlite.proofs.StateLemmas.{survives_then}
use Rattle.lynx_sql.proofs.ActLemmas.{adds_next}
use Rattle.lynx_sql.proofs.acts.insert_acts.Goals as goal

pub loop-act-preserved : goal.loop-act-preserved
loop-act-preserved g c =
    let first = state g.S.Store c.args.tx.now.conn.now in
    let mid = state g.S.Store c.loop-act.tx.conn.now in
    let now = state g.S.Store c.insert_act.new.tx.conn.now in
    record {
      same_reference = c.insert_act.ensures.same_reference ∙ c.loop-act.invariant.same_reference;
      survives = survives_then first mid now _ _ (λ _. ⊥) (λ _ db none. none) (λ _ db none. none) c.loop-act.invariant.survives c.insert_act.ensures.survives;
      added = λ clean up inside has.
          let before : HasCleanDisk mid = omega (arith, c.insert_act.ensures.survives.clean) in
          let so_far = c.loop-act.invariant.added before up inside has in
          let step = c.in_ok-insert_act.ensures.ok clean so_far.on.shown.mode (so_far.on.schema ∙ has) in
          let low : c.loop-act.act-index < length c.args.acts.now = c.loop-act-test.true in
          adds_next first mid now c.args.acts.now c.loop-act.act-index _ low so_far step;
    }
