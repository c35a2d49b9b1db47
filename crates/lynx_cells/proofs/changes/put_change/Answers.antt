use Rattle.std.proofs.Common.{ℕ, sym, ap, ◌∙◌, subst, set, is_some}
use Rattle.std.proofs.lemmas.Bool.{false≢true}
use Rattle.lynx_cells.specs.inner.Place.{IsPlaceOf, IsGapFor}
use Rattle.lynx_cells.specs.Triples.{entries_of}
use Rattle.lynx_cells.proofs.Places.{put_at_place, put_in_gap, find_in_gap, read_has_cell}
use Rattle.lynx_cells.proofs.changes.put_change.Goals as goal

-- the cell was there, and its value is written over
pub returns-in-Ok-clause-ok : goal.returns-in-Ok-clause-ok
returns-in-Ok-clause-ok c =
    let ts = c.args.changes.now.items in
    let cell : ℕ × ℕ = (c.args.table, c.args.key) in
    let there = subst (λ xs. IsPlaceOf xs cell c.in-Ok.place) c.deref.ensures.value c.in-Ok.ensures.there in
    let rises = c.requires in
    ap (λ (x : ℕ × ℕ). entries_of (set ts c.in-Ok.place (x.0, x.1, c.args.value))) (read_has_cell ts cell c.in-Ok.place c.index_mut.result.now there c.index_mut.ensures.value)
    ∙ sym (put_at_place ts cell c.args.value c.in-Ok.place rises there)

-- the cell's triple is added in the gap
pub returns-in_ok-insert-in-Err-clause-ok : goal.returns-in_ok-insert-in-Err-clause-ok
returns-in_ok-insert-in-Err-clause-ok c =
    let ts = c.args.changes.now.items in
    let cell : ℕ × ℕ = (c.args.table, c.args.key) in
    let gap = subst (λ xs. IsGapFor xs cell c.in-Err.place) c.deref.ensures.value c.in-Err.ensures.gap in
    ap entries_of c.in_ok-insert-in-Err.ensures.items ∙ sym (put_in_gap ts cell c.args.value c.in-Err.place gap)

-- memory fails only for a cell that was not there
pub returns-in_err-insert-in-Err-clause-changed_already : goal.returns-in_err-insert-in-Err-clause-changed_already
returns-in_err-insert-in-Err-clause-changed_already c found =
    let ts = c.args.changes.now.items in
    let cell : ℕ × ℕ = (c.args.table, c.args.key) in
    let gap = subst (λ xs. IsGapFor xs cell c.in-Err.place) c.deref.ensures.value c.in-Err.ensures.gap in
    absurd (false≢true (ap is_some (sym (find_in_gap ts cell c.in-Err.place gap)) ∙ found))
