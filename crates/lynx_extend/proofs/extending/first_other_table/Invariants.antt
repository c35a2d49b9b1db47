use Rattle.lynx_extend.specs.Extends.{AreSameTables}
use Rattle.lynx_extend.proofs.extending.first_other_table.Given as goal

abbrev pub invariant-loop-table : goal.invariant-loop-table
invariant-loop-table l = AreSameTables l.old l.new l.table
