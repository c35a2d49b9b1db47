use Rattle.std.proofs.Common.{◌+◌, ◌≤◌, length}
use Rattle.lynx_port.specs.inner.Steps.{Wrote}
use Rattle.lynx_port.proofs.writing.write_encoding.Given as goal

abbrev pub invariant-loop-rest : goal.invariant-loop-rest
invariant-loop-rest g l = record {
  wrote : Wrote (g.W.Write.contents l.initial.writer) (g.W.Write.contents l.writer) l.encoding l.rest;
  turns : l.turns ≤ l.initial.turns;
}

abbrev pub decreases-loop-rest : goal.decreases-loop-rest
decreases-loop-rest g l = l.turns + length l.rest
