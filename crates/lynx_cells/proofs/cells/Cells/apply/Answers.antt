use Rattle.std.proofs.Common.{ℕ, List, IsTrue, sym, ap, ◌∙◌, subst}
use Rattle.std.proofs.lemmas.List.{at_drop_all}
use Rattle.std.specs.FinMap as map
use Rattle.std.specs.FinSet as set
use Rattle.lynx_cells.specs.Database.{cell_cmp, written}
use Rattle.lynx_cells.specs.Triples.{entries_of}
use Rattle.lynx_cells.proofs.Maps.{entries_of-triples_of}
use Rattle.lynx_cells.proofs.Staging.{HaveSlots-from_staged}
use Rattle.lynx_cells.proofs.cells.Cells.apply.Goals as goal

-- the cell of this turn has its slot
pub overwrite-requires : goal.overwrite-requires
overwrite-requires c =
    let slots = HaveSlots-from_staged c.args.self.now c.args.changes.now c.list-table-items.result.now c.list-table-items.ensures c.requires in
    let here = slots c.loop-table.table-index c.loop-table-item.result c.loop-table-test.true in
    let item = subst (λ (t : ℕ × ℕ × ℕ). IsTrue (set.contains c.args.self.now.staged (t.0, t.1))) (sym c.loop-table-item.is) here in
    subst (λ (staged : set.FinSet cell_cmp). IsTrue (set.contains staged (c.loop-table-item.result.0, c.loop-table-item.result.1))) (sym c.loop-table.invariant.staged) item

-- no change is left
pub returns-clause-database : goal.returns-clause-database
returns-clause-database c =
    let items = c.list-table-items.result.now in
    let old = c.args.self.now.database in
    sym (at_drop_all (λ (ts : List (ℕ × ℕ × ℕ)). written (entries_of ts) c.loop-table.self.database) items c.loop-table.table-index c.loop-table-test.false)
    ∙ c.loop-table.invariant.database
    ∙ ap (λ (ts : List (ℕ × ℕ × ℕ)). written (entries_of ts) old) c.list-table-items.ensures
    ∙ ap (λ es. written es old) (entries_of-triples_of (map.entries c.args.changes.now))
