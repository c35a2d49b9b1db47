-- Closed walks of a set, and which of them offend.
use Rattle.std.specs.Prelude.{◌≢◌, List, [], ◌∷◌, Any}
use Rattle.lynx_set.specs.Set.{Set}
use Rattle.lynx_foot.specs.Conflicts.{MayConflict}
use Rattle.lynx_graph.specs.declared.visit.Visit.{Visit}
use Rattle.lynx_set.specs.Lookups.{origin_of}

-- the hop by which the visit is left may conflict with the hop at which the next is entered
abbrev pub Joins : Set → Visit → Visit → Type 0
Joins set visit next = MayConflict set visit.program visit.left next.program next.entered

-- the visit joins the next, each of the rest the one after it, and the last of them the first
abbrev pub JoinsAround : Set → Visit → Visit → List Visit → Type 0
JoinsAround set first visit [] = Joins set visit first
JoinsAround set first visit (next ∷ rest) = Joins set visit next × JoinsAround set first next rest

-- at least two visits, each of which joins the next, and the last the first
abbrev pub IsClosedWalk : Set → List Visit → Type 0
IsClosedWalk set [] = ⊥
IsClosedWalk set (only ∷ []) = ⊥
IsClosedWalk set (first ∷ second ∷ rest) = JoinsAround set first first (second ∷ rest)

-- left by another hop than it was entered at
abbrev pub Crosses : Visit → Type 0
Crosses visit = visit.entered ≢ visit.left

-- programs of different origins
abbrev pub Differ : Set → Visit → Visit → Type 0
Differ set visit other = origin_of set visit.program ≢ origin_of set other.program

-- some visit crosses, and two visits have programs of different origins
pub record Offends (set : Set) (walk : List Visit) : Type 0 where
  pub crosses : Any Crosses walk
  pub differ : Any (λ visit. Any (λ other. Differ set visit other) walk) walk

abbrev pub IsOffending : Set → List Visit → Type 0
IsOffending set walk = IsClosedWalk set walk × Offends set walk

-- no closed walk of the set offends, of whatever length
abbrev pub NoWalkOffends : Set → Type 0
NoWalkOffends set = (walk : List Visit) → IsOffending set walk → ⊥
