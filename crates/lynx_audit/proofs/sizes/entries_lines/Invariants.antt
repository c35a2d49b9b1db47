use Rattle.std.proofs.Common.{◌≡◌, ◌++◌, drop}
use Rattle.lynx_weave.specs.Rebuilt.{histories_in}
use Rattle.lynx_audit.specs.Sizes.{entries_from, entries_lines}
use Rattle.lynx_audit.proofs.sizes.entries_lines.Given as goal

-- what is written and the lines of those that are left are the whole
abbrev pub invariant-loop-server : goal.invariant-loop-server
invariant-loop-server l =
    l.text.items ++ entries_from l.server (histories_in (drop l.server l.histories)) ≡ entries_lines (histories_in l.histories)
