use Rattle.std.proofs.Common.{◌≡◌, ◌≢◌, ℕ, ◌<◌, ◌∷◌, take, get_or}
use Rattle.lynx_order.proofs.cycle.part_of.Given as goal

abbrev pub invariant-loop-place : goal.invariant-loop-place
invariant-loop-place l =
    (l.round ≡ l.current ∷ take l.place-index l.path) × ((k : ℕ) → k < l.place-index → get_or l.path k 0 ≢ l.current)
