use Rattle.std.proofs.Common.{arith, ap, length, length-append}
use Rattle.lynx_codec.specs.Encoding.{encoding}
use Rattle.lynx_codec.specs.declared.item.Item.TheVariants as items
use Rattle.lynx_port.proofs.TogetherLemmas.{appended_more, encoding_short}
use Rattle.lynx_port.proofs.together.append_answers.Goals as goal

pub loop-answer-preserved-in-Some-2 : goal.loop-answer-preserved-in-Some-2
loop-answer-preserved-in-Some-2 c = record {
  appended = appended_more _ _ _ _ _ _ _ c.loop-answer.invariant.appended c.in-Some.ensures.steps.0 c.append.ensures.encoding c.append.ensures.item;
  room = omega (arith, c.loop-answer.invariant.room, encoding_short (items.Answer c.in-Some.answer) c.append.ensures.item, c.append.ensures.capacity, ap length c.append.ensures.encoding, length-append c.loop-answer.bytes.items (encoding (items.Answer c.in-Some.answer)), ap length c.in-Some.ensures.steps.0);
}

pub loop-answer-preserved-in-Some-3 : goal.loop-answer-preserved-in-Some-3
loop-answer-preserved-in-Some-3 c = record {
  appended = appended_more _ _ _ _ _ _ _ c.loop-answer.invariant.appended c.in-Some.ensures.steps.0 c.append.ensures.encoding c.append.ensures.item;
  room = omega (arith, c.loop-answer.invariant.room, encoding_short (items.Answer c.in-Some.answer) c.append.ensures.item, c.append.ensures.capacity, ap length c.append.ensures.encoding, length-append c.loop-answer.bytes.items (encoding (items.Answer c.in-Some.answer)), ap length c.in-Some.ensures.steps.0);
}
