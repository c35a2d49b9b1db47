use Rattle.std.proofs.Common.{◌≡◌, ◌++◌, drop}
use Rattle.lynx_lex.specs.Lines.{spaced}
use Rattle.lynx_reasons.proofs.meets.put_names.Given as goal

-- what is written and what is left are the whole
abbrev pub invariant-loop-name : goal.invariant-loop-name
invariant-loop-name l = l.out.items ++ spaced (drop l.name-index l.names) ≡ l.fn.out.items ++ spaced l.names
