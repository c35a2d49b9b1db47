use Rattle.std.proofs.Common.{◌≡◌, ◌++◌}
use Rattle.lynx_set.specs.Text.{text, programs_lines}
use Rattle.lynx_text.proofs.printing.put_programs.Given as goal

abbrev pub invariant-loop-name : goal.invariant-loop-name
invariant-loop-name l = l.out.items ++ text (programs_lines l.tables l.name-iterator) ≡ l.fn.out.items ++ text (programs_lines l.tables l.programs.entries)
