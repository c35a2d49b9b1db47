use Rattle.lynx_server.specs.Owed.{OwesNothingBetween}
use Rattle.lynx_server.proofs.server.Server.messages_due.Given as goal

abbrev pub invariant-loop-place : goal.invariant-loop-place
invariant-loop-place g l = OwesNothingBetween l.self l.from l.place
