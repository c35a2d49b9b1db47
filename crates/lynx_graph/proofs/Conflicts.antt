-- The edges are the conflicts that may be, and all of them.
use Rattle.std.proofs.Common.{◌≡◌, ℕ, ◌≤◌, Bool, true, false, cond, List, [], ◌∷◌, map, filter, Some, zero, suc, sym, ap, subst, arith}
use Rattle.std.specs.Prelude.{All, Contains, slice_get}
use Rattle.std.specs.Bool.{Decides}
use Rattle.std.proofs.lemmas.Bool.{false≢true}
use Rattle.std.proofs.lemmas.Option.{none-some, same_Some}
use Rattle.std.proofs.lemmas.List.Elements.{All-append, All-map, All-nil, All-weaker, Contains-append_left, Contains-append_right, filter_passes}
use Rattle.lynx_set.specs.Set.{Set}
use Rattle.lynx_foot.specs.Conflicts.{MayConflict}
use Rattle.lynx_graph.proofs.Decides.{Decides-joins as Decides-graph_joins}
use Rattle.lynx_graph.specs.declared.meeting.Place.{Place}
use Rattle.lynx_graph.specs.declared.edges.Edge.{Edge}
use Rattle.lynx_graph.specs.Edges.{HasConflicts, IsConflict, edges_among, edges_from, edges_of, joins, places_of}

pub Decides-joins : (set : Set) (left right : Place) → Decides (joins set left right) (MayConflict set left.program left.hop right.program right.hop)
Decides-joins set left right = Decides-graph_joins set (record { program = left.program; hop = left.hop }) (record { program = right.program; hop = right.hop })

-- ---- each edge is a conflict that may be

from_conflicts : (set : Set) (left : Place) (others : List Place) → All (IsConflict set) (edges_from set left others)
from_conflicts set left others =
    let kept = filter (joins set left) others in
    All-map (IsConflict set) (λ right. record { left = left; right = right }) kept
    (All-weaker (λ right. joins set left right ≡ true) (λ right. MayConflict set left.program left.hop right.program right.hop) (λ right passes. (Decides-joins set left right).0 passes) kept
    (filter_passes (joins set left) others))

among_conflicts : (set : Set) (places : List Place) → All (IsConflict set) (edges_among set places)
among_conflicts set [] = All-nil (IsConflict set)
among_conflicts set (place ∷ places) =
    All-append (IsConflict set) (edges_from set place (place ∷ places)) (edges_among set places) (from_conflicts set place (place ∷ places)) (among_conflicts set places)

pub edges_conflict : (set : Set) → All (IsConflict set) (edges_of set)
edges_conflict set = among_conflicts set (places_of set)

-- ---- each conflict that may be is an edge

later : (left y : Place) (kept : List Place) (edge : Edge) (b : Bool) → Contains (map {B = Edge} (λ right. record { left = left; right = right }) kept) edge →
    Contains (map {B = Edge} (λ right. record { left = left; right = right }) (cond b (y ∷ kept) kept)) edge
later left y kept edge true found = let below = found.1 in (suc found.0, omega arith, found.2)
later left y kept edge false found = found

here : (left y right : Place) (kept : List Place) (b : Bool) → b ≡ true → y ≡ right →
    Contains (map {B = Edge} (λ other. record { left = left; right = other }) (cond b (y ∷ kept) kept)) (record { left = left; right = right })
here left y right kept true passes same = (0, omega arith, ap {B = Edge} (λ other. record { left = left; right = other }) same)
here left y right kept false passes same = absurd (false≢true passes)

from_has : (set : Set) (left : Place) (others : List Place) (j : ℕ) (right : Place) → slice_get others j ≡ Some right → joins set left right ≡ true →
    Contains (edges_from set left others) (record { left = left; right = right })
from_has set left [] j right there passes = absurd (none-some right there)
from_has set left (y ∷ others) zero right there passes =
    let same = same_Some y right there in
    here left y right (filter (joins set left) others) (joins set left y) (subst (λ (z : Place). joins set left z ≡ true) (sym same) passes) same
from_has set left (y ∷ others) (suc j) right there passes =
    later left y (filter (joins set left) others) (record { left = left; right = right }) (joins set left y) (from_has set left others j right there passes)

among_has : (set : Set) (places : List Place) (i j : ℕ) (edge : Edge) → i ≤ j → slice_get places i ≡ Some edge.left → slice_get places j ≡ Some edge.right → joins set edge.left edge.right ≡ true →
    Contains (edges_among set places) edge
among_has set [] i j edge order left right passes = absurd (none-some edge.left left)
among_has set (place ∷ places) zero j edge order left right passes =
    let same = same_Some place edge.left left in
    Contains-append_left (edges_from set place (place ∷ places)) (edges_among set places) edge
    (subst (λ (p : Place). Contains (edges_from set p (place ∷ places)) edge) (sym same) (from_has set edge.left (place ∷ places) j edge.right right passes))
among_has set (place ∷ places) (suc i) zero edge order left right passes = absurd (omega arith)
among_has set (place ∷ places) (suc i) (suc j) edge order left right passes =
    Contains-append_right (edges_from set place (place ∷ places)) (edges_among set places) edge (among_has set places i j edge (omega arith) left right passes)

pub conflicts_have_edges : (set : Set) → HasConflicts set (edges_of set)
conflicts_have_edges set i j edge order left right conflict = among_has set (places_of set) i j edge order left right ((Decides-joins set edge.left edge.right).1 conflict)
