use Rattle.std.proofs.Common.{◌≡◌, ◌-◌}
use Rattle.lynx_codec.specs.Reading.{rising_at}
use Rattle.lynx_codec.proofs.Loops.{with_front}
use Rattle.lynx_codec.proofs.body.Body.rising.Given as goal

abbrev pub invariant-loop : goal.invariant-loop
invariant-loop l = with_front l.numbers.items (rising_at l.least (l.count - l.counter) l.self) ≡ rising_at 0 l.count l.fn.self
