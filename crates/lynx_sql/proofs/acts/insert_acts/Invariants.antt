use Rattle.std.proofs.Common.{◌≡◌, IsTrue, take}
use Rattle.sqlite.specs.Held.{state}
use Rattle.sqlite.specs.State.{HasCleanDisk, Survives}
use Rattle.lynx_sql.specs.declared.version.StoreVersion.TheVariants.{Two}
use Rattle.lynx_sql.specs.Tables.{store_schema}
use Rattle.lynx_sql.specs.Steps.{AddsActs}
use Rattle.lynx_sql.proofs.acts.insert_acts.Given as goal

abbrev pub invariant-loop-act : goal.invariant-loop-act
invariant-loop-act g l =
    let first = state g.S.Store l.fn.tx.conn.now in
    let now = state g.S.Store l.tx.conn.now in
    record {
      same_reference : l.tx.conn.ghost_name ≡ l.fn.tx.conn.ghost_name;
      survives : Survives first now (λ _. ⊥);
      added : HasCleanDisk now → IsTrue first.is_open → IsTrue first.in_transaction → first.now.schema ≡ store_schema Two → AddsActs first now (take l.act-index l.acts);
    }
