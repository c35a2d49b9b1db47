use Rattle.std.proofs.Common.{◌≡◌}
use Rattle.lynx_hints.proofs.before.Before.of_set.Given as goal

abbrev pub invariant-loop-name : goal.invariant-loop-name
invariant-loop-name l = l.before.servers ≡ l.set.servers
