use Rattle.std.proofs.Common.{◌≡◌, replicate}
use Rattle.lynx_keep.specs.Kept.{nothing_kept}
use Rattle.lynx_world.proofs.opening.empty_keepers.Given as goal

abbrev pub invariant-loop : goal.invariant-loop
invariant-loop l = l.keepers.items ≡ replicate l.counter nothing_kept
