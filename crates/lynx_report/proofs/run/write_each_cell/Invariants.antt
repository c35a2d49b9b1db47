use Rattle.std.proofs.Common.{take}
use Rattle.std.specs.Io.KnownBytes.{Appends}
use Rattle.lynx_report.specs.Runs.{cell_lines}
use Rattle.lynx_report.proofs.run.write_each_cell.Given as goal

-- the cells so far are printed
abbrev pub invariant-loop-table : goal.invariant-loop-table
invariant-loop-table g l =
    Appends (g.W.Write.contents l.initial.writer) (g.W.Write.contents l.writer) (cell_lines l.set.tables (take l.table-index l.cells))
