use Rattle.std.proofs.Common.{◌≡◌, ◌+◌, IsTrue, take}
use Rattle.sqlite.specs.Held.{state}
use Rattle.sqlite.specs.State.{HasCleanDisk, Survives}
use Rattle.lynx_sql.specs.declared.version.StoreVersion.{StoreVersion}
use Rattle.lynx_sql.specs.Contents.{bodies_in}
use Rattle.lynx_sql.specs.Tables.{store_schema}
use Rattle.lynx_sql.specs.Steps.{AddsEntries}
use Rattle.lynx_sql.proofs.batch.insert_entries.Given as goal

abbrev pub invariant-loop-body : goal.invariant-loop-body
invariant-loop-body g l =
    let first = state g.S.Store l.fn.tx.conn.now in
    let now = state g.S.Store l.tx.conn.now in
    record {
      same_reference : l.tx.conn.ghost_name ≡ l.fn.tx.conn.ghost_name;
      next : l.next ≡ l.place + l.body-index;
      survives : Survives first now (λ _. ⊥);
      added : HasCleanDisk now → IsTrue first.is_open → IsTrue first.in_transaction → (version : StoreVersion) → first.now.schema ≡ store_schema version → AddsEntries first now l.place (bodies_in (take l.body-index l.bodies));
    }
