use Rattle.std.proofs.Common.{take, All, IsTrue}
use Rattle.std.specs.FinSet as set
use Rattle.lynx_cells.proofs.cells.Cells.is_staged.Given as goal

-- each change so far has its slot
abbrev pub invariant-loop-table : goal.invariant-loop-table
invariant-loop-table l = All (λ triple. IsTrue (set.contains l.self.staged (triple.0, triple.1))) (take l.table-index l.table-items)
