-- The hops of a set, and which two of them may conflict.
use Rattle.std.specs.Prelude.{◌≡◌, ◌≤◌, ℕ, List, [], ◌∷◌, ◌++◌, Contains, Some, map, filter, slice_get}
use Rattle.lynx_set.specs.Set.{Set}
use Rattle.lynx_foot.specs.Conflicts.{MayConflict}
pub use Rattle.lynx_graph.specs.declared.meeting.Place.{Place}
pub use Rattle.lynx_graph.specs.Nodes.{places_in, places_of}
pub use Rattle.lynx_graph.specs.Tests.{joins}
use Rattle.lynx_graph.specs.declared.edges.Edge.{Edge}

-- a hop with each of the others that it may conflict with
abbrev pub edges_from : Set → Place → List Place → List Edge
edges_from set left others =
    map (λ right. record { left = left; right = right }) (filter (joins set left) others)

-- of these hops each with itself and with those after it, where the two may conflict
abbrev pub edges_among : Set → List Place → List Edge
edges_among set [] = []
edges_among set (place ∷ places) = edges_from set place (place ∷ places) ++ edges_among set places

-- the pairs of hops of the set that may conflict, the first not after the second, in order
abbrev pub edges_of : Set → List Edge
edges_of set = edges_among set (places_of set)

-- the ends of an edge may conflict
abbrev pub IsConflict : Set → Edge → Type 0
IsConflict set edge =
    MayConflict set edge.left.program edge.left.hop edge.right.program edge.right.hop

-- of all hops of the set one and one not before it, where the two may conflict, make an edge of
-- these
abbrev pub HasConflicts : Set → List Edge → Type 0
HasConflicts set edges =
    (i j : ℕ) (edge : Edge) → i ≤ j → slice_get (places_of set) i ≡ Some edge.left
    → slice_get (places_of set) j ≡ Some edge.right → IsConflict set edge → Contains edges edge
