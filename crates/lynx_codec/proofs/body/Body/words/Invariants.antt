use Rattle.std.proofs.Common.{◌≡◌, ◌-◌}
use Rattle.lynx_codec.specs.Reading.{repeated, word_at}
use Rattle.lynx_codec.proofs.Loops.{with_front}
use Rattle.lynx_codec.proofs.body.Body.words.Given as goal

abbrev pub invariant-loop : goal.invariant-loop
invariant-loop l = with_front l.values.items (repeated word_at (l.count - l.counter) l.self) ≡ repeated word_at l.count l.fn.self
