use Rattle.std.proofs.Common.{◌≡◌, take}
use Rattle.lynx_weave.specs.Rebuilt.{histories_in}
use Rattle.lynx_weave.specs.Servers.{histories_of}
use Rattle.lynx_restore.proofs.copying.copy_histories.Given as goal

-- the histories so far are copied
abbrev pub invariant-loop-server : goal.invariant-loop-server
invariant-loop-server g l = histories_in l.copied.items ≡ histories_of (take l.server-index l.servers)
