use Rattle.std.proofs.Common.{◌≡◌, ◌++◌, take}
use Rattle.std.specs.List.{flat_map}
use Rattle.lynx_hops.proofs.run.names_before.Given as goal

abbrev pub invariant-loop-results : goal.invariant-loop-results
invariant-loop-results l = l.names ≡ l.args ++ flat_map (λ results. results) (take l.results-index l.earlier)
