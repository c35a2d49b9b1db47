use Rattle.std.proofs.Common.{◌≡◌, ◌++◌, drop}
use Rattle.lynx_draw.specs.Marks.{marks_text}
use Rattle.lynx_draw.proofs.marks.put_marks.Given as goal

-- what is written and what is left are the whole
abbrev pub invariant-loop-program : goal.invariant-loop-program
invariant-loop-program l =
    l.out.items ++ marks_text l.before l.set l.boxes l.edges (drop l.program-index l.programs) ≡ l.fn.out.items ++ marks_text l.before l.set l.boxes l.edges l.programs
