-- One more edge of a hop, or none.
use Rattle.std.proofs.Common.{◌≡◌, Bool, true, false, cond, List, [], ◌∷◌, ◌++◌, map, sym, ap, ◌∙◌, append_assoc}
use Rattle.std.specs.Prelude.{filter}
use Rattle.lynx_set.specs.Set.{Set}
use Rattle.lynx_graph.specs.declared.meeting.Place.{Place}
use Rattle.lynx_graph.specs.Tests.{joins}
use Rattle.lynx_graph.specs.declared.edges.Edge.{Edge}
use Rattle.lynx_graph.specs.Edges.{edges_from}

abbrev edge_to : Place → Place → Edge
edge_to left right = record { left = left; right = right }

-- the hop is joined to the next one, whose edge was added
pub edge_added : (set : Set) (left right : Place) (rest : List Place) (before : List Edge) → joins set left right ≡ true →
    (before ++ (record { left = left; right = right }) ∷ []) ++ edges_from set left rest ≡ before ++ edges_from set left (right ∷ rest)
edge_added set left right rest before joined =
    append_assoc before (edge_to left right ∷ []) (edges_from set left rest)
    ∙ ap (λ b. before ++ map (edge_to left) (cond b (right ∷ filter (joins set left) rest) (filter (joins set left) rest))) (sym joined)

-- or it isn't, and nothing was added
pub none_added : (set : Set) (left right : Place) (rest : List Place) (before : List Edge) → joins set left right ≡ false →
    before ++ edges_from set left rest ≡ before ++ edges_from set left (right ∷ rest)
none_added set left right rest before apart =
    ap (λ b. before ++ map (edge_to left) (cond b (right ∷ filter (joins set left) rest) (filter (joins set left) rest))) (sym apart)
