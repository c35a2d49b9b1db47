use Rattle.std.proofs.Common.{◌≡◌, ℕ, vec_capacity, ◌+◌, ◌-◌, length}
use Rattle.lynx_server.specs.Owed.{is_acknowledged}
use Rattle.lynx_server.proofs.marks.mark.Given as goal

abbrev pub invariant-loop-marks : goal.invariant-loop-marks
invariant-loop-marks l = (vec_capacity l.marks ≡ vec_capacity l.initial.marks)
    × ((other : ℕ) → is_acknowledged l.marks.items other ≡ is_acknowledged l.initial.marks.items other)

abbrev pub decreases-loop-marks : goal.decreases-loop-marks
decreases-loop-marks l = l.place + 1 - length l.marks.items
