use Rattle.std.proofs.Common.{◌≡◌, ◌+◌, ◌*◌, ◌≤◌, length, None, Ok}
use Rattle.lynx_codec.specs.Front.{front}
use Rattle.lynx_port.specs.Desks.{Replies}
use Rattle.lynx_port.specs.inner.Steps.{Going}
use Rattle.lynx_port.proofs.serving.serve.Given as goal

abbrev pub invariant-loop-turns : goal.invariant-loop-turns
invariant-loop-turns g l = record {
  going : Going (Replies g.D.Desk.begins g.D.Desk.looks) l.fn.desk l.desk (g.R.Read.remaining l.fn.reader) (g.R.Read.remaining l.reader) (g.W.Write.contents l.fn.writer) (g.W.Write.contents l.writer) l.feed.rest l.answers;
  is_open : l.feed.failed ≡ None;
  waiting : front l.feed.rest ≡ Ok None;
  room : l.answers + length l.feed.rest + 4096 * l.turns ≤ 4096 * 1000000;
}

abbrev pub decreases-loop-turns : goal.decreases-loop-turns
decreases-loop-turns g l = l.turns
