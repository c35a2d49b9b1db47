-- Which sets are accepted.
use Rattle.std.specs.Prelude.{◌⊎◌}
use Rattle.lynx_set.specs.Set.{Set}
use Rattle.lynx_graph.specs.Walks.{NoWalkOffends}
use Rattle.lynx_graph.specs.Blocks.{NoBlockWalkOffends}

-- no closed walk offends, or no walk of blocks does
abbrev pub IsAccepted : Set → Type 0
IsAccepted set = NoWalkOffends set ⊎ NoBlockWalkOffends set
