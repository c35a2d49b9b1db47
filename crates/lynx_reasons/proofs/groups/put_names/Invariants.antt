use Rattle.std.proofs.Common.{◌≡◌, ◌++◌, drop}
use Rattle.lynx_reasons.specs.Groups.{names_text}
use Rattle.lynx_reasons.proofs.groups.put_names.Given as goal

-- what is written and what is left are the whole
abbrev pub invariant-loop-program : goal.invariant-loop-program
invariant-loop-program l = l.out.items ++ names_text l.set (drop l.program-index l.group) ≡ l.fn.out.items ++ names_text l.set l.group
