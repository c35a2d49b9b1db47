-- How a walk is read off the tables of its start.
use Rattle.std.specs.Prelude.{◌≡◌, Bool, true, false, not, ◌==◌, ◌-◌, ◌<◌, ◌||◌, List, [], ◌∷◌, map, length, slice_get, find, Option, None, option_map, option_and_then}
use Rattle.std.specs.Option.{option_or}
use Rattle.std.specs.List.{range_with_len}
use Rattle.lynx_set.specs.Set.{Set}
use Rattle.lynx_graph.specs.declared.visit.Visit.{Visit}
use Rattle.lynx_graph.specs.Walks.{IsOffending}
use Rattle.lynx_graph.specs.Nodes.{nodes_of}
use Rattle.lynx_graph.specs.declared.nodes.Exit.{Exit}
use Rattle.lynx_graph.specs.declared.nodes.Node.{Node}
use Rattle.lynx_check.specs.declared.marks.Marks.{Marks}
use Rattle.lynx_check.specs.declared.tracing.Arrival.{Arrival}
use Rattle.lynx_check.specs.declared.tracing.Traced.{Traced}
use Rattle.lynx_check.specs.inner.Marks.{is_abroad, leaves, mark_at, table_within}

-- the first marked arrival for a walk that leaves at this node
abbrev pub arrival_after : List Marks → Node → Bool → Bool → Option Arrival
arrival_after table left crossed abroad =
    option_map (λ next. record { node = next; crossed = crossed; abroad = abroad })
    (find (λ next. mark_at table next crossed abroad) left.neighbours)

-- the visit that was entered here and is left by that exit, where a marked arrival follows
abbrev pub step_by : List Node → Node → List Marks → Node → Arrival → Exit → Option Traced
step_by nodes start table here arrival exit =
    option_map (λ next.
    record {
      visit = record {
        program = here.place.program;
        entered = here.place.hop;
        left = exit.hop;
      };
      next = next;
    })
    (option_and_then
    (λ left. arrival_after table left (arrival.crossed || not (here.place.hop == exit.hop))
    (arrival.abroad || is_abroad start here))
    (slice_get nodes exit.node))

-- the visit that is left by the first of these exits with a marked arrival after it
abbrev pub first_step : List Node → Node → List Marks → Node → Arrival → List Exit → Option Traced
first_step nodes start table here arrival [] = None
first_step nodes start table here arrival (exit ∷ exits) =
    option_or (step_by nodes start table here arrival exit)
    (first_step nodes start table here arrival exits)

abbrev pub next_step : List Node → Node → List Marks → Arrival → Option Traced
next_step nodes start table arrival =
    option_and_then (λ here. first_step nodes start table here arrival here.exits)
    (slice_get nodes arrival.node)

-- the tables of a start, of which the last marks a hop with which the start may conflict
pub record AreLevels (nodes : List Node) (start : Node) (levels : List (List Marks)) : Type 0 where
  pub some : 0 < length levels
  pub tables : levels ≡ map (table_within nodes start) (range_with_len 0 (length levels))
  pub closes : leaves (table_within nodes start (length levels - 1)) start false false ≡ true

-- the walk offends in the set that has these nodes
abbrev pub IsSound : List Node → List Visit → Type 0
IsSound nodes walk = (set : Set) → nodes ≡ nodes_of set → IsOffending set walk
