use Rattle.std.proofs.Common.{take}
use Rattle.lynx_server.specs.inner.Repeating.{IsReplayed}
use Rattle.lynx_server.proofs.replay.replay.Given as goal

abbrev pub invariant-loop-place : goal.invariant-loop-place
invariant-loop-place l = IsReplayed l.set l.fn.server (take l.place l.entries) l.replayed
