use Rattle.std.proofs.Common.{◌≡◌, ◌-◌}
use Rattle.lynx_names.specs.declared.limits.TheConstants.{MAX_ACTIONS}
use Rattle.lynx_codec.specs.Reading.{repeated, values_at}
use Rattle.lynx_codec.proofs.Loops.{with_front}
use Rattle.lynx_codec.proofs.body.Body.lists.Given as goal

abbrev pub invariant-loop : goal.invariant-loop
invariant-loop l = with_front l.lists.items (repeated (values_at MAX_ACTIONS) (l.count - l.counter) l.self) ≡ repeated (values_at MAX_ACTIONS) l.count l.fn.self
