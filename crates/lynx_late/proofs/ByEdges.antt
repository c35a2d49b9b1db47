-- What reaches abroad, told from the edges.
use Rattle.std.proofs.Common.{◌≡◌, ◌∙◌, Bool, true, false, cond, ◌||◌, List, [], ◌∷◌, filter, refl, ap}
use Rattle.std.specs.Prelude.{◌&&◌, filter_map}
use Rattle.std.specs.List.{list_any}
use Rattle.lynx_set.specs.Set.{Set}
use Rattle.lynx_graph.specs.declared.meeting.Place.{Place}
use Rattle.lynx_graph.specs.Edges.{edges_of}
use Rattle.lynx_graph.specs.Nodes.{places_of}
use Rattle.lynx_graph.specs.Tests.{joins}
use Rattle.lynx_late.specs.Abroad.{are_apart, hops_abroad, reaches_abroad}
use Rattle.lynx_late.specs.inner.Ends.{other_end}
use Rattle.lynx_late.proofs.OtherEnds.{others_are}

any_of_filter : {X : Type 0} (p q : X → Bool) (xs : List X) → list_any p (filter q xs) ≡ list_any (λ x. q x && p x) xs
any_of_filter p q [] = refl
any_of_filter {X} p q (x ∷ xs) = by_test (q x) (any_of_filter p q xs)
  where
    by_test : (b : Bool) → list_any p (filter q xs) ≡ list_any (λ (y : X). q y && p y) xs →
        list_any p (cond b (x ∷ filter q xs) (filter q xs)) ≡ ((b && p x) || list_any (λ (y : X). q y && p y) xs)
    by_test true rest = ap (λ b. p x || b) rest
    by_test false rest = rest

filter_of_filter : {X : Type 0} (p q : X → Bool) (xs : List X) → filter p (filter q xs) ≡ filter (λ x. q x && p x) xs
filter_of_filter p q [] = refl
filter_of_filter {X} p q (x ∷ xs) = by_test (q x) (filter_of_filter p q xs)
  where
    by_test : (b : Bool) → filter p (filter q xs) ≡ filter (λ (y : X). q y && p y) xs →
        filter p (cond b (x ∷ filter q xs) (filter q xs)) ≡ cond (b && p x) (x ∷ filter (λ (y : X). q y && p y) xs) (filter (λ (y : X). q y && p y) xs)
    by_test true rest = ap (λ later. cond (p x) (x ∷ later) later) rest
    by_test false rest = rest

pub reaches_abroad-by_edges : (set : Set) (place : Place) → list_any (are_apart set place) (filter_map (other_end place) (edges_of set)) ≡ reaches_abroad set place
reaches_abroad-by_edges set place =
    ap (list_any (are_apart set place)) (others_are set place) ∙ any_of_filter (are_apart set place) (joins set place) (places_of set)

pub hops_abroad-by_edges : (set : Set) (place : Place) → filter (are_apart set place) (filter_map (other_end place) (edges_of set)) ≡ hops_abroad set place
hops_abroad-by_edges set place =
    ap (filter (are_apart set place)) (others_are set place) ∙ filter_of_filter (are_apart set place) (joins set place) (places_of set)
