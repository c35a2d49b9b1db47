use Rattle.std.proofs.Common.{take}
use Rattle.lynx_seq.specs.Counters.{AreSoFar}
use Rattle.lynx_seq.proofs.sequencer.numbers_from.Given as goal

-- the numbers of the servers so far
abbrev pub invariant-loop-server : goal.invariant-loop-server
invariant-loop-server l = AreSoFar l.counters (take l.server-index l.visits) l.numbers
