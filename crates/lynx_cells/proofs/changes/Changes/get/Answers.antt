use Rattle.std.proofs.Common.{ℕ, Some, sym, ap, ◌∙◌, subst}
use Rattle.std.specs.FinMap as map
use Rattle.lynx_cells.proofs.CellOrder.{cell_cmp_total}
use Rattle.lynx_cells.specs.inner.Place.{IsPlaceOf, IsGapFor}
use Rattle.lynx_cells.specs.Triples.{entries_of}
use Rattle.lynx_cells.proofs.Places.{find_at_place, find_in_gap}
use Rattle.lynx_cells.proofs.changes.Changes.get.Goals as goal

pub returns-in-Ok : goal.returns-in-Ok
returns-in-Ok c =
    let ts = c.self.inside.items.items in
    let cell : ℕ × ℕ = (c.args.table, c.args.key) in
    let there = subst (λ xs. IsPlaceOf xs cell c.in-Ok.place) c.deref.ensures.value c.in-Ok.ensures.there in
    let read = c.index.result.now in
    ap (λ (x : ℕ × ℕ × ℕ). Some x.2) c.index.ensures
    ∙ sym (find_at_place ts cell c.in-Ok.place read c.self.invariant there)
    ∙ sym (map.get-from_entries cell_cmp_total (entries_of ts) cell)
    ∙ ap (λ m. map.get m cell) c.self.view_is

pub returns-in-Err : goal.returns-in-Err
returns-in-Err c =
    let ts = c.self.inside.items.items in
    let cell : ℕ × ℕ = (c.args.table, c.args.key) in
    let gap = subst (λ xs. IsGapFor xs cell c.in-Err.field-0) c.deref.ensures.value c.in-Err.ensures.gap in
    sym (find_in_gap ts cell c.in-Err.field-0 gap)
    ∙ sym (map.get-from_entries cell_cmp_total (entries_of ts) cell)
    ∙ ap (λ m. map.get m cell) c.self.view_is
