use Rattle.std.proofs.Common.{List, ℕ, ◌∙◌, ◌++◌, ◌∷◌, ap, subst, codes}
use Rattle.std.specs.Fmt.{decimal}
use Rattle.lynx_lex.specs.Lines.{with_feed}
use Rattle.lynx_report.specs.Runs.{cell_line}
use Rattle.lynx_report.specs.Written.{AppendsPart}
use Rattle.lynx_lines.proofs.Parts.{line_cut, lines_so_far, on_err}
use Rattle.lynx_report.proofs.run.write_each_cell.Goals as goal

pub returns-in_err-line-clause-part : goal.returns-in_err-line-clause-part
returns-in_err-line-clause-part g c =
    on_err c.from_residual.result
    (lines_so_far (cell_line c.args.set.now.tables) _ _ c.args.cells.now c.loop-table.table-index c.loop-table.invariant)

pub returns-in_err-write_bytes-clause-part : goal.returns-in_err-write_bytes-clause-part
returns-in_err-write_bytes-clause-part g c =
    let cell = c.loop-table-item.result in
    let line = c.as_slice.ensures.value ∙ c.in_ok-line.ensures
    ∙ ap (λ (name : List ℕ). with_feed (codes "cell " ++ name ++ 32 ∷ decimal cell.1 ++ 32 ∷ decimal cell.2)) c.table_name.ensures in
    on_err c.from_residual-in_err-write_bytes.result
    (line_cut (cell_line c.args.set.now.tables) _ _ _ c.args.cells.now c.loop-table.table-index cell c.loop-table-test.true c.loop-table-item.is
    c.loop-table.invariant (subst (AppendsPart _ _) line c.in_err-write_bytes.ensures.part))
