-- Intervals of numbers, and those in which the arguments of a program lie.
use Rattle.std.specs.Prelude.{ℕ, ◌==◌, ◌&&◌, Bool, if◌then◌else◌, nat_le, List, [], ◌∷◌, Option, Some, None, slice_index}
use Rattle.std.specs.List.{list_all}
use Rattle.lynx_set.specs.declared.interval.Interval.{Interval}
use Rattle.lynx_set.specs.declared.program.ParameterRange.{ParameterRange}

-- one number alone
abbrev pub one_number : ℕ → Interval
one_number number = record { low = number; high = number }

-- a number is in the interval
abbrev pub holds : Interval → ℕ → Bool
holds interval number = nat_le interval.low number && nat_le number interval.high

-- neither interval ends before the other begins
abbrev pub meets : Interval → Interval → Bool
meets left right = nat_le left.low right.high && nat_le right.low left.high

-- the interval in which a parameter's arguments lie: that of its first range, none where they may
-- be any number
abbrev pub range_of : List ParameterRange → ℕ → Option Interval
range_of [] parameter = None
range_of (range ∷ ranges) parameter =
    if range.parameter == parameter then Some range.interval else range_of ranges parameter

-- each argument of which there is a range lies in it
abbrev pub are_in_range : List ParameterRange → List ℕ → Bool
are_in_range ranges args =
    list_all (λ range. holds range.interval (slice_index args range.parameter)) ranges
