use Rattle.std.proofs.Common.{IsTrue, true, ◌≡◌, ◌+◌, ◌∷◌, ℕ, List, drop, sym, ap, ◌∙◌, subst}
use Rattle.std.proofs.lemmas.List.{at_drop_more, at_drop_all}
use Rattle.std.proofs.lemmas.Bool.{false≢true}
use Rattle.std.specs.FinMap as map
use Rattle.std.specs.FinSet as set
use Rattle.lynx_cells.specs.Database.{cell_cmp}
use Rattle.lynx_cells.proofs.Staging.{HaveSlots-from_staged, cells_of, cells_of-triples_of, union-insert, union-none, contains-insert_kept, IsStaged-union}
use Rattle.lynx_cells.proofs.cells.Cells.stage.Goals as goal

-- the cell of this turn has its slot
pub loop-table-preserved : goal.loop-table-preserved
loop-table-preserved c =
    let items = c.list-table-items.result.now in
    let i = c.loop-table.table-index in
    let item = c.loop-table-item.result in
    let cell : ℕ × ℕ = (item.0, item.1) in
    let old = c.loop-table.self.staged in
    let slots = c.in_ok-stage_cell.ensures.staged in
    let all : List (ℕ × ℕ × ℕ) → set.FinSet cell_cmp = λ ts. set.union old (set.from_list (cells_of ts)) in
    record {
      database = c.stage_cell.ensures.database ∙ c.loop-table.invariant.database;
      keeps = λ q has. subst (λ staged. set.contains staged q ≡ true) (sym slots) (contains-insert_kept old cell q (c.loop-table.invariant.keeps q has));
      room =
          ap (λ staged. set.union staged (set.from_list (cells_of (drop (i + 1) items)))) slots
          ∙ union-insert old cell (cells_of (drop (i + 1) items))
          ∙ sym (at_drop_more all items i item c.loop-table-test.true ∙ ap (λ (t : ℕ × ℕ × ℕ). all (t ∷ drop (i + 1) items)) (sym c.loop-table-item.is))
          ∙ c.loop-table.invariant.room;
    }

-- no change is left
pub returns-clause-room : goal.returns-clause-room
returns-clause-room c =
    let items = c.list-table-items.result.now in
    let staged = c.loop-table.self.staged in
    sym (at_drop_all (λ ts. set.union staged (set.from_list (cells_of ts))) items c.loop-table.table-index c.loop-table-test.false ∙ union-none staged)
    ∙ c.loop-table.invariant.room
    ∙ ap (λ ts. set.union c.args.self.now.staged (set.from_list (cells_of ts))) c.list-table-items.ensures
    ∙ ap (λ cells. set.union c.args.self.now.staged (set.from_list cells)) (cells_of-triples_of (map.entries c.args.changes.now))

pub returns-clause-staged : goal.returns-clause-staged
returns-clause-staged c = IsStaged-union c.loop-table.self c.args.self.now.staged c.args.changes.now (returns-clause-room c)

-- memory fails only for a cell that had no slot
pub returns-in_err-stage_cell-clause-staged_already : goal.returns-in_err-stage_cell-clause-staged_already
returns-in_err-stage_cell-clause-staged_already c staged =
    let item = c.loop-table-item.result in
    let slots = HaveSlots-from_staged c.args.self.now c.args.changes.now c.list-table-items.result.now c.list-table-items.ensures staged in
    let here = slots c.loop-table.table-index item c.loop-table-test.true in
    let has = subst (λ (t : ℕ × ℕ × ℕ). IsTrue (set.contains c.args.self.now.staged (t.0, t.1))) (sym c.loop-table-item.is) here in
    absurd (false≢true (c.in_err-stage_cell.ensures.staged_already (c.loop-table.invariant.keeps (item.0, item.1) has)))
