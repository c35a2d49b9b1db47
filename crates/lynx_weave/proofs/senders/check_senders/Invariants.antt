use Rattle.lynx_weave.specs.Servers.{histories_of}
use Rattle.lynx_weave.proofs.Sending.{AreAllSentBelow}
use Rattle.lynx_weave.proofs.senders.check_senders.Given as goal

abbrev pub invariant-loop-here : goal.invariant-loop-here
invariant-loop-here g l = AreAllSentBelow l.set (histories_of l.servers) l.here-index
