use Rattle.std.proofs.Common.{◌≤◌, length, None}
use Rattle.lynx_port.specs.Desks.{Replies}
use Rattle.lynx_port.specs.inner.Steps.{GoesOn}
use Rattle.lynx_port.proofs.answering.next_other.Given as goal

abbrev pub invariant-loop-frame : goal.invariant-loop-frame
invariant-loop-frame g l = record {
  goes_on : GoesOn (Replies g.D.Desk.begins g.D.Desk.looks) l.fn.desk l.desk (g.W.Write.contents l.fn.writer) (g.W.Write.contents l.writer) l.fn.feed.rest None l.feed.rest l.fn.answers l.answers;
  turns : l.turns ≤ l.fn.turns;
}

abbrev pub decreases-loop-frame : goal.decreases-loop-frame
decreases-loop-frame g l = length l.feed.rest
