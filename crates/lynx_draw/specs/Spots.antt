-- Hops as they are drawn.
use Rattle.std.specs.Prelude.{Bool, false, ◌&&◌, ◌==◌, ℕ, List, [], ◌++◌, codes, decimal, if◌then◌else◌}
use Rattle.std.specs.List.{list_any}
use Rattle.lynx_set.specs.Set.{Set}
use Rattle.lynx_set.specs.Lookups.{program_name}
use Rattle.lynx_graph.specs.declared.edges.Edge.{Edge}
use Rattle.lynx_draw.specs.declared.spot.Spot.{Spot}

-- some two hops of the program may conflict, or a hop with itself
abbrev pub is_drawn_twice : List Edge → ℕ → Bool
is_drawn_twice edges program =
    list_any (λ edge. edge.left.program == program && edge.right.program == program) edges

-- the ends of an edge: the right one is drawn again where both are of one program
abbrev pub left_spot : Edge → Spot
left_spot edge = record { place = edge.left; again = false }

abbrev pub right_spot : Edge → Spot
right_spot edge = record { place = edge.right; again = edge.left.program == edge.right.program }

abbrev pub again_word : Bool → List ℕ
again_word again = if again then codes " again" else []

-- the node of a hop of the program of that name, in quotes
abbrev pub spot_word : List ℕ → ℕ → Bool → List ℕ
spot_word name hop again =
    codes "\"" ++ name ++ codes " " ++ decimal hop ++ again_word again ++ codes "\""

abbrev pub spot_text : Set → Spot → List ℕ
spot_text set spot = spot_word (program_name set spot.place.program) spot.place.hop spot.again
