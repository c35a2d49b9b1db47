use Rattle.std.proofs.Common.{◌≡◌, ◌++◌, drop}
use Rattle.lynx_draw.specs.Programs.{programs_text}
use Rattle.lynx_draw.proofs.programs.put_programs.Given as goal

-- what is written and what is left are the whole
abbrev pub invariant-loop-program : goal.invariant-loop-program
invariant-loop-program l =
    l.out.items ++ programs_text l.set l.boxes l.late l.edges (drop l.program-index l.programs) ≡ l.fn.out.items ++ programs_text l.set l.boxes l.late l.edges l.programs
