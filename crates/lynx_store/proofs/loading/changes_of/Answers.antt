use Rattle.std.proofs.Common.{ℕ, ap, subst, sym, ◌∙◌, arith}
use Rattle.std.specs.FinMap as finite
use Rattle.lynx_sql.specs.Shown.{AreCells, with_rows}
use Rattle.lynx_sql.proofs.FoundCells.{with_rows_next}
use Rattle.lynx_store.proofs.RowsRead.{take_next, take_whole, cells_more, told_by}
use Rattle.lynx_store.proofs.Told.{cell_at}
use Rattle.lynx_store.proofs.loading.changes_of.Goals as goal

pub loop-row-preserved : goal.loop-row-preserved
loop-row-preserved c =
    let so_far = c.loop-row.invariant in
    let cell = c.in-Some.cell in
    let key : ℕ × ℕ = (cell.0, cell.1) in
    let low = c.loop-row-test.true in
    let next = take_next c.args.rows.now c.loop-row.row-index c.row-item.result low c.row-item.is in
    record {
      are = subst AreCells (sym next) (cells_more _ c.row-item.result cell so_far.are c.in-Some.ensures.some.0 c.in-Some.ensures.some.1);
      changes = c.in_ok-put.ensures.ok ∙ ap (λ changes. finite.insert changes key cell.2) so_far.changes
          ∙ with_rows_next c.args.rows.now c.loop-row.row-index c.row-item.result key cell.2 low c.row-item.is
          (told_by c.row-item.result cell c.in-Some.ensures.some.0 c.in-Some.ensures.some.1);
    }

pub returns-in_default-clause-none : goal.returns-in_default-clause-none
returns-in_default-clause-none c = λ are.
    let row = cell_at c.args.rows.now c.loop-row.row-index c.row-item.result are c.loop-row-test.true c.row-item.is in
    c.in_default.ensures.none row.cell row.fits row.is

pub returns-clause-some : goal.returns-clause-some
returns-clause-some c =
    let past = c.loop-row-test.false in
    let whole = take_whole c.args.rows.now c.loop-row.row-index (omega arith) in
    (subst AreCells whole c.loop-row.invariant.are, c.loop-row.invariant.changes ∙ ap (λ rows. with_rows rows finite.empty) whole)
