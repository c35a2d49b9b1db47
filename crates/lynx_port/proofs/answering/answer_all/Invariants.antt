use Rattle.std.proofs.Common.{◌+◌, ◌≤◌, length, None}
use Rattle.lynx_port.specs.Desks.{Replies}
use Rattle.lynx_port.specs.Talks.{Answered}
use Rattle.lynx_port.proofs.answering.answer_all.Given as goal

abbrev pub invariant-loop-frame : goal.invariant-loop-frame
invariant-loop-frame g l = record {
  answered : Answered (Replies g.D.Desk.begins g.D.Desk.looks) l.fn.desk l.desk (g.W.Write.contents l.fn.writer) (g.W.Write.contents l.writer) l.fn.feed.rest l.feed.rest l.fn.answers l.answers None;
  turns : l.turns ≤ l.fn.turns;
  room : l.answers + length l.feed.rest ≤ l.fn.answers + length l.fn.feed.rest;
}

abbrev pub decreases-loop-frame : goal.decreases-loop-frame
decreases-loop-frame g l = length l.feed.rest
