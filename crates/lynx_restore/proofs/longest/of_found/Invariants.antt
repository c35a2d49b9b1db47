use Rattle.std.proofs.Common.{◌≡◌, ◌++◌, drop}
use Rattle.lynx_weave.specs.Rebuilt.{histories_in}
use Rattle.lynx_restore.specs.Longest.{of_found}
use Rattle.lynx_restore.proofs.longest.of_found.Given as goal

-- what is there, and what is left to add, is the whole
abbrev pub invariant-loop-number : goal.invariant-loop-number
invariant-loop-number l =
    l.servers.items ++ of_found (histories_in (drop l.number l.found)) (drop l.number l.told) ≡ of_found (histories_in l.found) l.told
