use Rattle.std.proofs.Common.{ℕ, ◌<◌}
use Rattle.lynx_store.specs.Acts.{ShowsAt}
use Rattle.lynx_store.proofs.acts.are_act_rows.Given as goal

-- the rows so far show their hops
abbrev pub invariant-loop-place : goal.invariant-loop-place
invariant-loop-place l = (k : ℕ) → k < l.place → ShowsAt l.acts l.rows k
