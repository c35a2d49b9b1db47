-- Blocks of a set's chains, walks of blocks, and which of them offend.
use Rattle.std.specs.Prelude.{◌≡◌, ◌≢◌, ◌≤◌, ℕ, List, [], ◌∷◌, All, Any, Some}
use Rattle.lynx_set.specs.Set.{Set}
use Rattle.lynx_set.specs.Lookups.{origin_of, server_at}
use Rattle.lynx_foot.specs.Conflicts.{MayConflict}
use Rattle.lynx_graph.specs.declared.block.Block.{Block}
use Rattle.lynx_graph.specs.declared.block.Block.TheVariants.{One, Two}
use Rattle.lynx_graph.specs.declared.meeting.Place.{Place}

-- the hop at which the block is entered, and the one by which it is left
abbrev pub entrance_of : Block → Place
entrance_of (One program entered left) = record { program = program; hop = entered }
entrance_of (Two first entered second left) = record { program = first; hop = entered }

abbrev pub exit_of : Block → Place
exit_of (One program entered left) = record { program = program; hop = left }
exit_of (Two first entered second left) = record { program = second; hop = left }

-- one chain, or two of one origin
abbrev pub IsBlock : Set → Block → Type 0
IsBlock set (One program entered left) = Unit {0}
IsBlock set (Two first entered second left) = origin_of set first ≡ origin_of set second

-- a hop of the program, of that number or a lower one, is at the server of the place
pub record HasCome (set : Set) (place : Place) (program last : ℕ) : Type 0 where
  pub hop : ℕ
  pub server : ℕ
  pub upto : hop ≤ last
  pub own : server_at set program hop ≡ Some server
  pub there : server_at set place.program place.hop ≡ Some server

-- One: left by the hop that it was entered at, or by a later one. Two: the second chain, by the hop
-- that it is left by, has been at the server where the first was entered
abbrev pub IsForward : Set → Block → Type 0
IsForward set (One program entered left) = entered ≤ left
IsForward set (Two first entered second left) =
    HasCome set (record { program = first; hop = entered }) second left

-- the places may conflict, and their programs are of different origins
pub record Meets (set : Set) (left right : Place) : Type 0 where
  pub conflict : MayConflict set left.program left.hop right.program right.hop
  pub apart : origin_of set left.program ≢ origin_of set right.program

-- the block meets the next, each of the rest the one after it, and the last of them the first
abbrev pub MeetsAround : Set → Block → Block → List Block → Type 0
MeetsAround set first block [] = Meets set (exit_of block) (entrance_of first)
MeetsAround set first block (next ∷ rest) =
    Meets set (exit_of block) (entrance_of next) × MeetsAround set first next rest

-- at least two blocks, each of which meets the next, and the last the first
abbrev pub IsBlockWalk : Set → List Block → Type 0
IsBlockWalk set [] = ⊥
IsBlockWalk set (only ∷ []) = ⊥
IsBlockWalk set (first ∷ second ∷ rest) =
    All (IsBlock set) (first ∷ second ∷ rest) × MeetsAround set first first (second ∷ rest)

-- some block isn't forward
abbrev pub IsOffendingBlockWalk : Set → List Block → Type 0
IsOffendingBlockWalk set walk = IsBlockWalk set walk × Any (λ block. ¬ IsForward set block) walk

-- no walk of blocks of the set offends, of whatever length
abbrev pub NoBlockWalkOffends : Set → Type 0
NoBlockWalkOffends set = (walk : List Block) → IsOffendingBlockWalk set walk → ⊥
