-- What the reasons of groups mean.
use Rattle.std.specs.Prelude.{ℕ, List, All, Contains}
use Rattle.lynx_set.specs.Set.{Set}
use Rattle.lynx_graph.specs.declared.visit.Visit.{Visit}
use Rattle.lynx_graph.specs.Blocks.{NoBlockWalkOffends}
use Rattle.lynx_graph.specs.Walks.{IsOffending, NoWalkOffends}
use Rattle.lynx_reasons.specs.declared.groups.GroupReason.{GroupReason}
use Rattle.lynx_reasons.specs.declared.groups.GroupReason.TheVariants.{OneOrigin, OneHop, NoWalk, Blocks}

-- each program that the walk visits is of the group
abbrev pub LiesIn : List ℕ → List Visit → Type 0
LiesIn group walk = All (λ visit. Contains group visit.program) walk

-- no closed walk that lies in the group offends, of whatever length
abbrev pub NoWalkOffendsIn : Set → List ℕ → Type 0
NoWalkOffendsIn set group = (walk : List Visit) → LiesIn group walk → IsOffending set walk → ⊥

-- What is so of a group for which that reason is told.
abbrev pub IsSoOf : Set → List ℕ → GroupReason → Type 0
IsSoOf set group OneOrigin = NoWalkOffendsIn set group
IsSoOf set group OneHop = NoWalkOffendsIn set group
IsSoOf set group NoWalk = NoWalkOffends set
IsSoOf set group Blocks = NoBlockWalkOffends set
