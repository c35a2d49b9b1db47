use Rattle.std.proofs.Common.{◌≡◌, ◌++◌, drop}
use Rattle.lynx_weave.specs.Cuts.{fronts}
use Rattle.lynx_weave.specs.Rebuilt.{histories_in}
use Rattle.lynx_weave.specs.Servers.{histories_of}
use Rattle.lynx_restore.proofs.copying.copy_fronts.Given as goal

-- what is copied, and what is left to copy, is the whole
abbrev pub invariant-loop-number : goal.invariant-loop-number
invariant-loop-number g l =
    histories_in l.copied.items ++ fronts (drop l.number l.counts) (histories_of (drop l.number l.servers))
    ≡ fronts l.counts (histories_of l.servers)
