-- Sets that changes made accepted.
use Rattle.std.specs.Prelude.{ℕ, ◌+◌, Option, Some, None}
use Rattle.lynx_set.specs.Set.{Set}
use Rattle.lynx_mend.specs.declared.change.Change.{Change}
use Rattle.lynx_mend.specs.Costs.{cost_of}

-- one change or two, and the set that they make
pub record Mended : Type 0 where
  pub first : Change
  pub second : Option Change
  pub set : Set

-- what two changes cost together, or one
abbrev pub both_cost : Change → Option Change → ℕ
both_cost first None = cost_of first
both_cost first (Some second) = cost_of first + cost_of second

abbrev pub mending_cost : Mended → ℕ
mending_cost mended = both_cost mended.first mended.second
