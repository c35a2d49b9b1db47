use Rattle.lynx_weave.proofs.Sending.{AreSentBelow}
use Rattle.lynx_weave.specs.Servers.{histories_of}
use Rattle.lynx_weave.proofs.senders.first_unsent.Given as goal

abbrev pub invariant-loop-place : goal.invariant-loop-place
invariant-loop-place g l = AreSentBelow l.set (histories_of l.servers) l.history l.place
