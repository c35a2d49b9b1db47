use Rattle.std.proofs.Common.{◌≡◌, ◌++◌}
use Rattle.lynx_set.proofs.set.copy_programs.Given as goal

abbrev pub invariant-loop-name : goal.invariant-loop-name
invariant-loop-name l = l.copied.entries ++ l.name-iterator ≡ l.programs.entries
