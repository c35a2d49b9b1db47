use Rattle.std.proofs.Common.{◌≡◌, ◌<◌, ℕ, slice_get, Some}
use Rattle.lynx_weave.specs.declared.counts.ServerCounts.{ServerCounts}
use Rattle.lynx_cluster.proofs.closing.first_uncounted.Given as goal

-- the counts so far agree
abbrev pub invariant-loop-number : goal.invariant-loop-number
invariant-loop-number l =
    (server : ℕ) (its : ServerCounts) → server < l.number → slice_get l.counts server ≡ Some its → its.fresh ≡ its.begins
