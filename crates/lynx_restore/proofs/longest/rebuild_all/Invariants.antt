use Rattle.lynx_weave.specs.Rebuilt.{histories_in}
use Rattle.lynx_restore.proofs.Longests.{AreLongestBelow}
use Rattle.lynx_restore.proofs.longest.rebuild_all.Given as goal

-- the servers so far
abbrev pub invariant-loop-number : goal.invariant-loop-number
invariant-loop-number l = AreLongestBelow l.set (histories_in l.found) l.number l.servers.items
