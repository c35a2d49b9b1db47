use Rattle.std.proofs.Common.{◌≡◌, ◌<◌, ℕ, Some, slice_get}
use Rattle.lynx_order.proofs.ranks.inverts.Given as goal

abbrev pub invariant-loop-place : goal.invariant-loop-place
invariant-loop-place l = (k number : ℕ) → k < l.place → slice_get l.numbers k ≡ Some number → slice_get l.inverse number ≡ Some k
