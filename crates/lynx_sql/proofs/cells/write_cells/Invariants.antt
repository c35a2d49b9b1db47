use Rattle.std.proofs.Common.{◌≡◌, IsTrue, take}
use Rattle.sqlite.specs.Held.{state}
use Rattle.sqlite.specs.State.{HasCleanDisk, Survives}
use Rattle.lynx_cells.specs.Database.{written}
use Rattle.lynx_cells.specs.Triples.{entries_of}
use Rattle.lynx_sql.specs.declared.version.StoreVersion.{StoreVersion}
use Rattle.lynx_sql.specs.Tables.{store_schema}
use Rattle.lynx_sql.specs.Steps.{WritesCells}
use Rattle.lynx_sql.proofs.cells.write_cells.Given as goal

abbrev pub invariant-loop-table : goal.invariant-loop-table
invariant-loop-table g l =
    let first = state g.S.Store l.fn.tx.conn.now in
    let now = state g.S.Store l.tx.conn.now in
    record {
      same_reference : l.tx.conn.ghost_name ≡ l.fn.tx.conn.ghost_name;
      survives : Survives first now (λ _. ⊥);
      changed : HasCleanDisk now → IsTrue first.is_open → IsTrue first.in_transaction → (version : StoreVersion) → first.now.schema ≡ store_schema version → WritesCells first now (written (entries_of (take l.table-index l.changes)));
    }
