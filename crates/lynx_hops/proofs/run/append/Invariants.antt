use Rattle.std.proofs.Common.{◌≡◌, ◌++◌, take}
use Rattle.lynx_hops.proofs.run.append.Given as goal

abbrev pub invariant-loop-value : goal.invariant-loop-value
invariant-loop-value l = l.names ≡ l.initial.names ++ take l.value-index l.values
