use Rattle.std.proofs.Common.{List, ℕ, subst}
use Rattle.std.specs.Io.KnownBytes.{Appends}
use Rattle.lynx_set.specs.Set.{Set}
use Rattle.lynx_report.specs.Runs.{cell_lines}
use Rattle.lynx_report.proofs.RunLemmas.{end_prints}
use Rattle.lynx_lines.proofs.Parts.{on_err}
use Rattle.lynx_report.proofs.Stops.{end_cut}
use Rattle.lynx_report.proofs.run.write_end.Goals as goal

pub returns-in_err-write_explained-clause-part : goal.returns-in_err-write_explained-clause-part
returns-in_err-write_explained-clause-part g c =
    let lines = subst (λ (set : Set). Appends (g.W.Write.contents c.args.writer.now) (g.W.Write.contents c.write_each_cell.new.writer) (cell_lines set.tables c.in_ok-cells.cells.items)) c.set.ensures.value
    (subst (λ (cells : List (ℕ × ℕ × ℕ)). Appends (g.W.Write.contents c.args.writer.now) (g.W.Write.contents c.write_each_cell.new.writer) (cell_lines c.set.result.now.tables cells)) c.as_slice.ensures.value c.in_ok-write_each_cell.ensures.lines) in
    let explains = c.in_ok-explained.ensures in
    on_err c.from_residual-in_err-write_explained.result
    (end_cut _ _ _ c.args.world.now c.in_ok-cells.cells.items c.in_ok-explained.explained c.in_ok-cells.ensures.all c.in_ok-cells.ensures.in_order lines
    (record { order = explains.order; cycle = explains.cycle; accepted = explains.accepted }) c.in_err-write_explained.ensures.part)

pub returns-clause-ok : goal.returns-clause-ok
returns-clause-ok g c =
    let lines = subst (λ (set : Set). Appends (g.W.Write.contents c.args.writer.now) (g.W.Write.contents c.write_each_cell.new.writer) (cell_lines set.tables c.in_ok-cells.cells.items)) c.set.ensures.value
    (subst (λ (cells : List (ℕ × ℕ × ℕ)). Appends (g.W.Write.contents c.args.writer.now) (g.W.Write.contents c.write_each_cell.new.writer) (cell_lines c.set.result.now.tables cells)) c.as_slice.ensures.value c.in_ok-write_each_cell.ensures.lines) in
    let explains = c.in_ok-explained.ensures in
    rw (c.ending_of.ensures)
    (end_prints _ _ _ c.args.world.now c.in_ok-cells.cells.items c.in_ok-explained.explained c.in_ok-cells.ensures.all c.in_ok-cells.ensures.in_order lines
    (record { order = explains.order; cycle = explains.cycle; accepted = explains.accepted }) c.in_ok-write_explained.ensures.line)
