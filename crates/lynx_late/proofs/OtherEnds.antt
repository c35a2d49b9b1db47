-- The other ends of a hop's edges are the hops with which it may conflict.
use Rattle.std.proofs.Common.{◌≡◌, ◌∙◌, Bool, true, false, cond, ◌||◌, List, [], ◌∷◌, ◌++◌, map, filter, Some, None, refl, sym, ap}
use Rattle.std.specs.Prelude.{filter_map}
use Rattle.std.specs.List.{cons_option}
use Rattle.std.proofs.lemmas.Bool.{false_from_ne_true, false≢true, or_parts}
use Rattle.std.proofs.lemmas.Bool.Decides.{same_from_decides}
use Rattle.std.proofs.lemmas.List.{append-nil}
use Rattle.std.proofs.lemmas.List.Elements.{filter_map-append}
use Rattle.std.proofs.lemmas.List.Folds.{list_any-from_Any}
use Rattle.std.proofs.lemmas.Option.{get_or_from_slice_get, slice_get_within}
use Rattle.lynx_set.specs.Set.{Set}
use Rattle.lynx_foot.proofs.ConflictLaws.{MayConflict-swapped}
use Rattle.lynx_graph.specs.declared.edges.Edge.{Edge}
use Rattle.lynx_graph.specs.declared.meeting.Place.{Place}
use Rattle.lynx_graph.specs.Edges.{edges_among, edges_from, edges_of}
use Rattle.lynx_graph.specs.Nodes.{places_of}
use Rattle.lynx_graph.specs.Tests.{joins}
use Rattle.lynx_graph.proofs.Decides.{Decides-joins}
use Rattle.lynx_graph.proofs.Places.{hop_left, place_of}
use Rattle.lynx_late.specs.inner.Ends.{other_end, same_place}
use Rattle.lynx_late.proofs.Once.{StandsOnce, is_in, place_stands_once, same_place-itself, same_place-true}

abbrev edge_of : Place → Place → Edge
edge_of left right = record { left = left; right = right }

-- ---- joining needs no order

pub joins-swapped : (set : Set) (left right : Place) → joins set left right ≡ joins set right left
joins-swapped set left right =
    let one = Decides-joins set left right in
    let other = Decides-joins set right left in
    same_from_decides (joins set left right) (joins set right left) one (
      λ passes. MayConflict-swapped set right.program right.hop left.program left.hop (other.0 passes),
      λ may. other.1 (MayConflict-swapped set left.program left.hop right.program right.hop may),
    )

-- ---- the edges from one hop

-- of the first of the others
others_step : (set : Set) (place left right : Place) (rest : List Place) →
    filter_map (other_end place) (edges_from set left (right ∷ rest))
    ≡ cond (joins set left right) (cons_option (other_end place (edge_of left right)) (filter_map (other_end place) (edges_from set left rest))) (filter_map (other_end place) (edges_from set left rest))
others_step set place left right rest = by_test (joins set left right)
  where
    kept : List Place
    kept = filter (joins set left) rest

    by_test : (b : Bool) → filter_map (other_end place) (map (edge_of left) (cond b (right ∷ kept) kept))
        ≡ cond b (cons_option (other_end place (edge_of left right)) (filter_map (other_end place) (map (edge_of left) kept))) (filter_map (other_end place) (map (edge_of left) kept))
    by_test true = refl
    by_test false = refl

-- where it is the hop itself, all that it joins
from_itself : (set : Set) (place : Place) (others : List Place) → filter_map (other_end place) (edges_from set place others) ≡ filter (joins set place) others
from_itself set place [] = refl
from_itself set place (right ∷ rest) =
    others_step set place place right rest
    ∙ ap (λ b. cond (joins set place right) (cons_option (cond b (Some right) (cond (same_place right place) (Some place) None)) (filter_map (other_end place) (edges_from set place rest)))
    (filter_map (other_end place) (edges_from set place rest))) (same_place-itself place)
    ∙ ap (λ later. cond (joins set place right) (right ∷ later) later) (from_itself set place rest)

-- where it is another, and the hop isn't among the others, none
from_another_none : (set : Set) (place left : Place) (others : List Place) → same_place left place ≡ false → is_in place others ≡ false →
    filter_map (other_end place) (edges_from set left others) ≡ []
from_another_none set place left [] another absent = refl
from_another_none set place left (right ∷ rest) another absent =
    let parts = or_parts (same_place right place) (is_in place rest) absent in
    others_step set place left right rest
    ∙ ap (λ b. cond (joins set left right) (cons_option (cond b (Some right) (cond (same_place right place) (Some left) None)) (filter_map (other_end place) (edges_from set left rest)))
    (filter_map (other_end place) (edges_from set left rest))) another
    ∙ ap (λ b. cond (joins set left right) (cons_option (cond b (Some left) None) (filter_map (other_end place) (edges_from set left rest)))
    (filter_map (other_end place) (edges_from set left rest))) parts.0
    ∙ both (joins set left right) (filter_map (other_end place) (edges_from set left rest)) ∙ from_another_none set place left rest another parts.1
  where
    both : (b : Bool) (xs : List Place) → cond b xs xs ≡ xs
    both true xs = refl
    both false xs = refl

-- and where the hop is, that one, if it joins it
from_another : (set : Set) (place left : Place) (others : List Place) → same_place left place ≡ false → StandsOnce place others → is_in place others ≡ true →
    filter_map (other_end place) (edges_from set left others) ≡ cond (joins set left place) (left ∷ []) []
from_another set place left [] another once here = absurd (false≢true here)
from_another set place left (right ∷ rest) another once here =
    others_step set place left right rest
    ∙ ap (λ b. cond (joins set left right) (cons_option (cond b (Some right) (cond (same_place right place) (Some left) None)) later) later) another
    ∙ by_test (same_place right place) refl here (from_another set place left rest another once.1)
  where
    later : List Place
    later = filter_map (other_end place) (edges_from set left rest)

    both : (b : Bool) (xs : List Place) → cond b xs xs ≡ xs
    both true xs = refl
    both false xs = refl

    by_test : (b : Bool) → same_place right place ≡ b → (b || is_in place rest) ≡ true → (is_in place rest ≡ true → later ≡ cond (joins set left place) (left ∷ []) []) →
        cond (joins set left right) (cons_option (cond b (Some left) None) later) later ≡ cond (joins set left place) (left ∷ []) []
    by_test true same found rest_is =
        ap (λ (p : Place). cond (joins set left p) (left ∷ later) later) (same_place-true right place same)
        ∙ ap (λ xs. cond (joins set left place) (left ∷ xs) xs) (from_another_none set place left rest another (once.0 same))
    by_test false other found rest_is = both (joins set left right) later ∙ rest_is found

-- ---- the edges among hops

among_none : (set : Set) (place : Place) (places : List Place) → is_in place places ≡ false → filter_map (other_end place) (edges_among set places) ≡ []
among_none set place [] absent = refl
among_none set place (first ∷ rest) absent =
    let parts = or_parts (same_place first place) (is_in place rest) absent in
    filter_map-append (other_end place) (edges_from set first (first ∷ rest)) (edges_among set rest)
    ∙ ap (λ xs. xs ++ filter_map (other_end place) (edges_among set rest)) (from_another_none set place first (first ∷ rest) parts.0 absent)
    ∙ among_none set place rest parts.1

among : (set : Set) (place : Place) (places : List Place) → StandsOnce place places → is_in place places ≡ true →
    filter_map (other_end place) (edges_among set places) ≡ filter (joins set place) places
among set place [] once here = absurd (false≢true here)
among set place (first ∷ rest) once here =
    filter_map-append (other_end place) (edges_from set first (first ∷ rest)) (edges_among set rest) ∙ by_test (same_place first place) refl here (among set place rest once.1)
  where
    by_joining : (b : Bool) → cond b (first ∷ []) [] ++ filter (joins set place) rest ≡ cond b (first ∷ filter (joins set place) rest) (filter (joins set place) rest)
    by_joining true = refl
    by_joining false = refl

    by_test : (b : Bool) → same_place first place ≡ b → (b || is_in place rest) ≡ true →
        (is_in place rest ≡ true → filter_map (other_end place) (edges_among set rest) ≡ filter (joins set place) rest) →
        filter_map (other_end place) (edges_from set first (first ∷ rest)) ++ filter_map (other_end place) (edges_among set rest) ≡ filter (joins set place) (first ∷ rest)
    by_test true same found rest_is =
        ap (λ xs. filter_map (other_end place) (edges_from set first (first ∷ rest)) ++ xs) (among_none set place rest (once.0 same))
        ∙ append-nil (filter_map (other_end place) (edges_from set first (first ∷ rest)))
        ∙ ap (λ (p : Place). filter_map (other_end place) (edges_from set p (first ∷ rest))) (same_place-true first place same)
        ∙ from_itself set place (first ∷ rest)
    by_test false other found rest_is =
        let parts : is_in place (first ∷ rest) ≡ true = ap (λ b. b || is_in place rest) other ∙ found in
        ap (λ xs. xs ++ filter_map (other_end place) (edges_among set rest)) (from_another set place first (first ∷ rest) other once parts)
        ∙ ap (λ xs. cond (joins set first place) (first ∷ []) [] ++ xs) (rest_is found)
        ∙ ap (λ b. cond b (first ∷ []) [] ++ filter (joins set place) rest) (joins-swapped set first place)
        ∙ by_joining (joins set place first)

-- ---- all edges

-- what joins some hop is a hop of the set
joins_in : (set : Set) (place other : Place) → joins set place other ≡ true → is_in place (places_of set) ≡ true
joins_in set place other passes =
    let conflict = (Decides-joins set place other).0 passes in
    let hop = hop_left set place other conflict in
    let at = place_of set place hop.0 hop.1 in
    list_any-from_Any (λ (one : Place). same_place one place) (places_of set)
    (at.0, place, slice_get_within (places_of set) at.0 place at.1, get_or_from_slice_get (places_of set) at.0 place place at.1, same_place-itself place)

filter_none : (test : Place → Bool) (xs : List Place) → ((x : Place) → test x ≡ true → ⊥) → filter test xs ≡ []
filter_none test [] never = refl
filter_none test (x ∷ xs) never = ap (λ b. cond b (x ∷ filter test xs) (filter test xs)) (false_from_ne_true (test x) (never x)) ∙ filter_none test xs never

-- the other ends of a hop's edges are the hops that it joins, in the set's order
pub others_are : (set : Set) (place : Place) → filter_map (other_end place) (edges_of set) ≡ filter (joins set place) (places_of set)
others_are set place = by_test (is_in place (places_of set)) refl
  where
    by_test : (b : Bool) → is_in place (places_of set) ≡ b → filter_map (other_end place) (edges_of set) ≡ filter (joins set place) (places_of set)
    by_test true here = among set place (places_of set) (place_stands_once set place) here
    by_test false absent =
        among_none set place (places_of set) absent
        ∙ sym (filter_none (joins set place) (places_of set) (λ other passes. false≢true (sym absent ∙ joins_in set place other passes)))
