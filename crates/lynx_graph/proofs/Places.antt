-- The hops of a set stand among its nodes, with the hops with which they may conflict.
use Rattle.std.proofs.Common.{◌≡◌, ℕ, ◌+◌, ◌<◌, Bool, true, false, cond, List, [], ◌∷◌, map, length, Option, Some, None, refl, ap, ◌∙◌, arith}
use Rattle.std.specs.Prelude.{◌==◌, Any, filter, filter_map, option_map, option_and_then, slice_get, unwrap_or}
use Rattle.std.specs.List.{enumerate_from, range_with_len}
use Rattle.std.specs.Option.{option_map_or}
use Rattle.std.proofs.lemmas.List.{length-map}
use Rattle.std.proofs.lemmas.Option.{none-some, slice_get-map, slice_get_within}
use Rattle.lynx_set.specs.declared.program.Hop.{Hop}
use Rattle.lynx_set.specs.declared.program.Program.{Program}
use Rattle.lynx_set.specs.Set.{Set}
use Rattle.lynx_foot.specs.declared.reach.Reach.{Reach}
use Rattle.lynx_foot.specs.Feet.{foot_of, footprint_of}
use Rattle.lynx_foot.specs.Reaches.{reach_of, reaches_of}
use Rattle.lynx_foot.specs.Conflicts.{MayConflict}
use Rattle.lynx_graph.specs.declared.meeting.Place.{Place}
use Rattle.lynx_graph.specs.declared.nodes.Node.{Node}
use Rattle.lynx_graph.specs.Nodes.{places_in, places_of, found, meet, node_among, node_of, nodes_of, place_reaches_of, each_place_reaches}
use Rattle.lynx_graph.specs.declared.nodes.Exit.{Exit}
use Rattle.lynx_graph.specs.declared.place_reaches.PlaceReaches.{PlaceReaches}
use Rattle.lynx_graph.specs.Tests.{joins}
use Rattle.lynx_graph.proofs.Lists.{slice_get-flat_map, slice_get-mapped, slice_get-range}
use Rattle.lynx_set.specs.Lookups.{hop_at, program_at, ranges_of}

-- the conflict of a place with another
abbrev pub Conflict : Set → Place → Place → Type 0
Conflict set left right = MayConflict set left.program left.hop right.program right.hop

-- ---- a hop with reaches is a hop

hop_from_reach : {P : Reach → Type 0} (set : Set) (program hop : ℕ) → Any P (reaches_of set program hop) → (found : Hop) × (hop_at set program hop ≡ Some found)
hop_from_reach {P} set program hop reach =
    by_hop (hop_at set program hop) refl reach.0 (omega (arith, reach.2, length-map (footprint_of set program hop) (reach_of (ranges_of set program))))
  where
    by_hop : (known : Option Hop) → hop_at set program hop ≡ known → (k : ℕ) → k < length (filter_map foot_of (unwrap_or (option_map (λ found. found.actions) known) [])) →
        (found : Hop) × (hop_at set program hop ≡ Some found)
    by_hop None is k within = absurd (omega (arith, within))
    by_hop (Some found) is k within = (found, is)

pub hop_left : (set : Set) (left right : Place) → Conflict set left right → (found : Hop) × (hop_at set left.program left.hop ≡ Some found)
hop_left set left right conflict = hop_from_reach set left.program left.hop conflict.reaches_may_collide

pub hop_right : (set : Set) (left right : Place) → Conflict set left right → (found : Hop) × (hop_at set right.program right.hop ≡ Some found)
hop_right set left right conflict = hop_from_reach set right.program right.hop conflict.reaches_may_collide.4

-- ---- each hop has a place

place_in : (set : Set) (program hop : ℕ) (found : Hop) → hop_at set program hop ≡ Some found → slice_get {X = Place} (places_in set program) hop ≡ Some (record { program = program; hop = hop })
place_in set program hop found is = by_program (program_at set program) is
  where
    by_program : (known : Option Program) → option_and_then (λ of. slice_get of.hops hop) known ≡ Some found →
        slice_get {X = Place} (map (λ h. record { program = program; hop = h }) (range_with_len 0 (option_map_or (λ of. length of.hops) known 0))) hop ≡ Some (record { program = program; hop = hop })
    by_program None none = absurd (none-some found none)
    by_program (Some known) there =
        slice_get-map {B = Place} (λ h. record { program = program; hop = h }) (range_with_len 0 (length known.hops)) hop
        ∙ ap (option_map {U = Place} (λ h. record { program = program; hop = h })) (slice_get-range (length known.hops) hop (slice_get_within known.hops hop found there))

program_within : (set : Set) (program hop : ℕ) (found : Hop) → hop_at set program hop ≡ Some found → program < length set.programs
program_within set program hop found is = by_program (slice_get set.programs program) refl is
  where
    by_program : (known : Option (List ℕ × Program)) → slice_get set.programs program ≡ known →
        option_and_then (λ of. slice_get of.hops hop) (option_map (λ named. named.1) known) ≡ Some found → program < length set.programs
    by_program None at none = absurd (none-some found none)
    by_program (Some named) at there = slice_get_within set.programs program named at

pub place_of : (set : Set) (place : Place) (found : Hop) → hop_at set place.program place.hop ≡ Some found → (n : ℕ) × (slice_get (places_of set) n ≡ Some place)
place_of set place found is =
    slice_get-flat_map (places_in set) (range_with_len 0 (length set.programs)) place.program place.hop place.program place
    (slice_get-range (length set.programs) place.program (program_within set place.program place.hop found is))
    (place_in set place.program place.hop found is)

-- ---- nodes

-- the node of a place
pub node_at : (set : Set) (n : ℕ) (place : Place) → slice_get (places_of set) n ≡ Some place → slice_get (nodes_of set) n ≡ Some (node_of set (places_of set) place)
node_at set n place there = slice_get-map (node_of set (places_of set)) (places_of set) n ∙ ap (option_map (node_of set (places_of set))) there

-- the place of a node
pub place_at : (set : Set) (n : ℕ) (node : Node) → slice_get (nodes_of set) n ≡ Some node → (place : Place) × (slice_get (places_of set) n ≡ Some place) × (node ≡ node_of set (places_of set) place)
place_at set n node there = slice_get-mapped (node_of set (places_of set)) (places_of set) n node there

-- ---- nodes, told from reached

-- what is found among reached, by a test and a making that see their places
found-reached : {X : Type 0} (set : Set) (of_reaches : PlaceReaches → Bool) (of_place : Place → Bool) (make : ℕ × PlaceReaches → X) (make_place : ℕ × Place → X) →
    ((place : Place) → of_reaches (place_reaches_of set place) ≡ of_place place) → ((n : ℕ) (place : Place) → make (n, place_reaches_of set place) ≡ make_place (n, place)) →
    (first : ℕ) (places : List Place) → found of_reaches make first (map (place_reaches_of set) places) ≡ found of_place make_place first places
found-reached set of_reaches of_place make make_place same_test same_made first [] = refl
found-reached {X} set of_reaches of_place make make_place same_test same_made first (place ∷ places) =
    ap (λ b. map make (cond b ((first, place_reaches_of set place) ∷ rest_reached) rest_reached)) (same_test place) ∙ by_test (of_place place) (found-reached set of_reaches of_place make make_place same_test same_made (first + 1) places)
  where
    rest_reached : List (ℕ × PlaceReaches)
    rest_reached = filter (λ numbered. of_reaches numbered.1) (enumerate_from (first + 1) (map (place_reaches_of set) places))

    rest_places : List (ℕ × Place)
    rest_places = filter (λ numbered. of_place numbered.1) (enumerate_from (first + 1) places)

    by_test : (b : Bool) → map make rest_reached ≡ map make_place rest_places →
        map make (cond b ((first, place_reaches_of set place) ∷ rest_reached) rest_reached) ≡ map make_place (cond b ((first, place) ∷ rest_places) rest_places)
    by_test true rest = cc (same_made first place, rest)
    by_test false rest = rest

node_among-is : (set : Set) (places : List Place) (place : Place) → node_among set (map (place_reaches_of set) places) (place_reaches_of set place) ≡ node_of set places place
node_among-is set places place =
    cc (
      found-reached {X = Exit} set (λ other. other.place.program == place.program) (λ other. other.program == place.program)
          (λ numbered. record { hop = numbered.1.place.hop; node = numbered.0 }) (λ numbered. record { hop = numbered.1.hop; node = numbered.0 }) (λ _. refl) (λ _ _. refl) 0 places,
      found-reached set (meet (place_reaches_of set place)) (joins set place) (λ numbered. numbered.0) (λ numbered. numbered.0) (λ _. refl) (λ _ _. refl) 0 places,
    )

nodes_among-are : (set : Set) (all some : List Place) → map (node_among set (map (place_reaches_of set) all)) (map (place_reaches_of set) some) ≡ map (node_of set all) some
nodes_among-are set all [] = refl
nodes_among-are set all (place ∷ some) = cc (node_among-is set all place, nodes_among-are set all some)

-- the nodes of a set are made from its reached
pub nodes_of-reached : (set : Set) → map (node_among set (each_place_reaches set)) (each_place_reaches set) ≡ nodes_of set
nodes_of-reached set = nodes_among-are set (places_of set) (places_of set)
