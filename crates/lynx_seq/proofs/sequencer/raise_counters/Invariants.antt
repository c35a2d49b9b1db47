use Rattle.std.proofs.Common.{◌≡◌, take}
use Rattle.lynx_seq.specs.Counters.{raised}
use Rattle.lynx_seq.proofs.sequencer.raise_counters.Given as goal

-- the counters of the numbers so far are raised
abbrev pub invariant-loop-drawn : goal.invariant-loop-drawn
invariant-loop-drawn l = l.counters ≡ raised (take l.drawn-index l.numbers) l.initial.counters
