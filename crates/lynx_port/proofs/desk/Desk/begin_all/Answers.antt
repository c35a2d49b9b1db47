use Rattle.std.proofs.Common.{arith, ap, length}
use Rattle.std.proofs.lemmas.List.Elements.{All-push}
use Rattle.lynx_codec.specs.Ranges.{IsAnswerInRange}
use Rattle.lynx_port.proofs.DeskLemmas.{asks_more}
use Rattle.lynx_port.proofs.desk.Desk.begin_all.Goals as goal

pub loop-request-preserved : goal.loop-request-preserved
loop-request-preserved g c = record {
  asks = rw (c.push.ensures.items, c.unwrap.ensures) (asks_more g.Self.Desk.begins _ _ _ _ _ _ _ _ _ c.loop-request.invariant.asks c.in-Some.ensures.steps.0 c.begin-answer.ensures.begins);
  range = rw (c.push.ensures.items, c.unwrap.ensures) (All-push IsAnswerInRange _ _ c.loop-request.invariant.range c.begin-answer.ensures.range);
  room = omega (arith, c.loop-request.invariant.room, rw c.unwrap.ensures at c.push.ensures.len, c.push.ensures.capacity, ap length c.in-Some.ensures.steps.0);
}
