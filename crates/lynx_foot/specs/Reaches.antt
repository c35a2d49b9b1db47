-- What the actions of a hop may do to which cells, whatever the arguments in their ranges are.
use Rattle.std.specs.Prelude.{ℕ, List, map, Option, Some}
use Rattle.lynx_set.specs.declared.interval.Interval.{Interval}
use Rattle.lynx_set.specs.declared.action.Key.{Key}
use Rattle.lynx_set.specs.declared.action.Key.TheVariants.{Literal, Param}
use Rattle.lynx_set.specs.declared.program.ParameterRange.{ParameterRange}
use Rattle.lynx_set.specs.Intervals.{one_number, range_of}
use Rattle.lynx_set.specs.Lookups.{ranges_of}
use Rattle.lynx_set.specs.Set.{Set}
use Rattle.lynx_foot.specs.declared.foot.Foot.{Foot}
use Rattle.lynx_foot.specs.declared.reach.Reach.{Reach}
use Rattle.lynx_foot.specs.Feet.{footprint_of}

-- the keys that a key may be, where parameters have these ranges: a literal itself, a parameter
-- those of its range; none where it may be any
abbrev pub keys_of : List ParameterRange → Key → Option Interval
keys_of ranges (Literal key) = Some (one_number key)
keys_of ranges (Param place) = range_of ranges place

-- the reach of a foot
abbrev pub reach_of : List ParameterRange → Foot → Reach
reach_of ranges foot =
    record { table = foot.table; keys = keys_of ranges foot.key; kind = foot.kind }

-- the reaches of a hop's actions, in order
abbrev pub reaches_of : Set → ℕ → ℕ → List Reach
reaches_of set program hop = map (reach_of (ranges_of set program)) (footprint_of set program hop)
