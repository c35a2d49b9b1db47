use Rattle.lynx_check.proofs.Deeper.{Deeper}
use Rattle.lynx_check.proofs.Tables.{unset_in}
use Rattle.lynx_check.proofs.search.search.Given as goal

abbrev pub invariant-deeper : goal.invariant-deeper
invariant-deeper l = Deeper l.nodes l.start l.levels l.table

abbrev pub decreases-deeper : goal.decreases-deeper
decreases-deeper l = unset_in l.table
