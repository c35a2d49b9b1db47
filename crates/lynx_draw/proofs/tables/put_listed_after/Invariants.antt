use Rattle.std.proofs.Common.{◌≡◌, ◌++◌, drop}
use Rattle.lynx_draw.specs.Tables.{listed_after}
use Rattle.lynx_draw.proofs.tables.put_listed_after.Given as goal

-- what is written and what is left are the whole
abbrev pub invariant-loop-name : goal.invariant-loop-name
invariant-loop-name l = l.out.items ++ listed_after (drop l.name-index l.names) ≡ l.fn.out.items ++ listed_after l.names
