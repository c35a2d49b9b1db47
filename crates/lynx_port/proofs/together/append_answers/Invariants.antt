use Rattle.std.proofs.Common.{◌*◌, length}
use Rattle.lynx_codec.specs.Adding.{HasRoom}
use Rattle.lynx_port.proofs.TogetherLemmas.{Appended}
use Rattle.lynx_port.proofs.together.append_answers.Given as goal

abbrev pub invariant-loop-answer : goal.invariant-loop-answer
invariant-loop-answer l = record {
  appended : Appended l.fn.bytes.items l.fn.answers.items l.answer-iterator.rest.items l.bytes.items;
  room : HasRoom l.bytes (2053 * length l.answer-iterator.rest.items);
}
