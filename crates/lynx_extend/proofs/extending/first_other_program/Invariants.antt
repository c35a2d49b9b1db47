use Rattle.lynx_extend.specs.Extends.{AreSamePrograms}
use Rattle.lynx_extend.proofs.extending.first_other_program.Given as goal

abbrev pub invariant-loop-program : goal.invariant-loop-program
invariant-loop-program l = AreSamePrograms l.old l.new l.program
