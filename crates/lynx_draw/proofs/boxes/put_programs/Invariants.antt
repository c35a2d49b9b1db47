use Rattle.std.proofs.Common.{◌≡◌, ◌++◌, drop}
use Rattle.lynx_draw.specs.Boxes.{boxed_programs}
use Rattle.lynx_draw.proofs.boxes.put_programs.Given as goal

-- what is written and what is left are the whole
abbrev pub invariant-loop-program : goal.invariant-loop-program
invariant-loop-program l = l.out.items ++ boxed_programs l.set (drop l.program-index l.programs) ≡ l.fn.out.items ++ boxed_programs l.set l.programs
