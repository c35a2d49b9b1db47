-- For what reason a set is accepted.
use Rattle.std.specs.Prelude.{List, Option, Some, None}
use Rattle.lynx_set.specs.Set.{Set}
use Rattle.lynx_graph.specs.declared.visit.Visit.{Visit}
use Rattle.lynx_graph.specs.Walks.{IsOffending, NoWalkOffends}
use Rattle.lynx_graph.specs.Blocks.{NoBlockWalkOffends}
use Rattle.lynx_check.specs.declared.accepted.Reason.{Reason}
use Rattle.lynx_check.specs.declared.accepted.Reason.TheVariants.{Walks, Blocks}

-- Walks: no closed walk offends. Blocks: not so, but no walk of blocks does
abbrev pub IsReason : Set → Reason → Type 0
IsReason set Walks = NoWalkOffends set
IsReason set Blocks = (NoWalkOffends set → ⊥) × NoBlockWalkOffends set

-- an accepted set, and a closed walk that offends and is excused, if there is one
pub record Accepted : Type 0 where
  pub set : Set
  pub excused : Option (List Visit)

-- None: no closed walk offends. Some: that walk does, but no walk of blocks
abbrev pub IsExcuse : Set → Option (List Visit) → Type 0
IsExcuse set None = NoWalkOffends set
IsExcuse set (Some walk) = IsOffending set walk × NoBlockWalkOffends set

-- the reason that a set with this excuse has
abbrev pub reason_of : Option (List Visit) → Reason
reason_of None = Walks
reason_of (Some walk) = Blocks
