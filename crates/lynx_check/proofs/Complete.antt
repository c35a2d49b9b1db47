-- Where no start closes a walk, no walk offends.
use Rattle.std.proofs.Common.{◌≡◌, ℕ, ◌+◌, Bool, true, false, not, ◌||◌, List, [], ◌∷◌, length, Option, Some, None, refl, sym, ap, subst, ◌∙◌, inl, inr, arith}
use Rattle.std.specs.Prelude.{◌==◌, All, is_some, option_and_then, option_map, slice_get, find}
use Rattle.std.specs.List.{list_any}
use Rattle.std.proofs.lemmas.Bool.{and_from, eq-eqb, false≢true, or_cases, or_left, or_right}
use Rattle.std.proofs.lemmas.Option.{get_or_from_slice_get, slice_get_within}
use Rattle.lynx_set.specs.Set.{Set}
use Rattle.lynx_graph.specs.declared.meeting.Place.{Place}
use Rattle.lynx_graph.specs.declared.nodes.Exit.{Exit}
use Rattle.lynx_graph.specs.declared.nodes.Node.{Node}
use Rattle.lynx_check.specs.declared.marks.Marks.{Marks}
use Rattle.lynx_check.specs.declared.tracing.Arrival.{Arrival}
use Rattle.lynx_check.specs.declared.tracing.Traced.{Traced}
use Rattle.lynx_graph.specs.declared.visit.Visit.{Visit}
use Rattle.lynx_graph.specs.Walks.{NoWalkOffends}
use Rattle.lynx_graph.specs.Tests.{joins}
use Rattle.lynx_graph.specs.inner.Tests.{crosses, differs, entrance_of, exit_of}
use Rattle.lynx_graph.specs.Nodes.{places_of, nodes_of}
use Rattle.lynx_check.specs.inner.Marks.{goes_on, is_abroad, leaves, leaving_table, mark_at, next_table, table_within}
use Rattle.lynx_check.specs.inner.Tracing.{arrival_after, first_step, next_step, step_by}
use Rattle.std.specs.Option.{option_or}
use Rattle.lynx_check.specs.inner.Searches.{ClosesNone, HasNone}
use Rattle.lynx_graph.proofs.Decides.{Decides-joins, Decides-leaves_origin, Decides-some_crosses}
use Rattle.lynx_graph.proofs.Lists.{found-any, is_some-find}
use Rattle.lynx_graph.proofs.Places.{Conflict, hop_right, node_at, place_of}
use Rattle.lynx_check.proofs.Sound.{at_place}
use Rattle.lynx_check.proofs.Tables.{length-table_within, mark_at-first_table, mark_at-leaving_table, mark_at-leaving_table_none, mark_at-next_table, table_within-suc, table_within-zero}
use Rattle.lynx_check.proofs.Trails.{Trail, Trail-begins, Trail-from_around}
use Rattle.lynx_set.specs.Lookups.{origin_of}

-- ---- a marked arrival that was not marked before can be left

is_some-option_map : {X Y : Type 0} (f : X → Y) (o : Option X) → is_some (option_map f o) ≡ is_some o
is_some-option_map f None = refl
is_some-option_map f (Some x) = refl

is_some-option_or : {X : Type 0} (left right : Option X) → is_some (option_or left right) ≡ (is_some left || is_some right)
is_some-option_or None right = refl
is_some-option_or (Some x) right = refl

pub is_some-arrival_after : (table : List Marks) (left : Node) (crossed abroad : Bool) → is_some (arrival_after table left crossed abroad) ≡ leaves table left crossed abroad
is_some-arrival_after table left crossed abroad =
    is_some-option_map {Y = Arrival} (λ next. record { node = next; crossed = crossed; abroad = abroad }) (find (λ next. mark_at table next crossed abroad) left.neighbours)
    ∙ is_some-find (λ next. mark_at table next crossed abroad) left.neighbours

-- whether a program that was entered here goes on by the exit
abbrev onward : List Node → Node → List Marks → Node → Arrival → Exit → Bool
onward nodes start table here arrival exit =
    mark_at (leaving_table nodes table) exit.node (arrival.crossed || not (here.place.hop == exit.hop)) (arrival.abroad || is_abroad start here)

is_some-step_by : (nodes : List Node) (start : Node) (table : List Marks) (here : Node) (arrival : Arrival) (exit : Exit) →
    is_some (step_by nodes start table here arrival exit) ≡ onward nodes start table here arrival exit
is_some-step_by nodes start table here arrival exit =
    is_some-option_map {Y = Traced} (λ next. record { visit = record { program = here.place.program; entered = here.place.hop; left = exit.hop }; next = next })
    (option_and_then (λ left. arrival_after table left crossed abroad) (slice_get nodes exit.node))
    ∙ by_left (slice_get nodes exit.node) refl
  where
    crossed : Bool
    crossed = arrival.crossed || not (here.place.hop == exit.hop)

    abroad : Bool
    abroad = arrival.abroad || is_abroad start here

    by_left : (left : Option Node) → slice_get nodes exit.node ≡ left → is_some (option_and_then (λ left. arrival_after table left crossed abroad) left) ≡ mark_at (leaving_table nodes table) exit.node crossed abroad
    by_left None none = sym (mark_at-leaving_table_none nodes table exit.node crossed abroad none)
    by_left (Some left) there = is_some-arrival_after table left crossed abroad ∙ sym (mark_at-leaving_table nodes table exit.node left crossed abroad there)

is_some-first_step : (nodes : List Node) (start : Node) (table : List Marks) (here : Node) (arrival : Arrival) (exits : List Exit) →
    is_some (first_step nodes start table here arrival exits) ≡ list_any (onward nodes start table here arrival) exits
is_some-first_step nodes start table here arrival [] = refl
is_some-first_step nodes start table here arrival (exit ∷ exits) =
    is_some-option_or (step_by nodes start table here arrival exit) (first_step nodes start table here arrival exits)
    ∙ ap (λ b. b || is_some (first_step nodes start table here arrival exits)) (is_some-step_by nodes start table here arrival exit)
    ∙ ap (λ b. onward nodes start table here arrival exit || b) (is_some-first_step nodes start table here arrival exits)

-- a mark that the table has not comes from a step by it
pub next_step-some : (nodes : List Node) (start : Node) (table : List Marks) (arrival : Arrival) (here : Node) → length table ≡ length nodes → slice_get nodes arrival.node ≡ Some here →
    mark_at (next_table nodes start table) arrival.node arrival.crossed arrival.abroad ≡ true → mark_at table arrival.node arrival.crossed arrival.abroad ≡ false →
    is_some (next_step nodes start table arrival) ≡ true
next_step-some nodes start table arrival here same there marked unmarked =
    let within = slice_get_within nodes arrival.node here there in
    let goes : goes_on (leaving_table nodes table) start here arrival.crossed arrival.abroad ≡ true =
    ap (λ b. b || goes_on (leaving_table nodes table) start here arrival.crossed arrival.abroad) (sym unmarked)
    ∙ sym (mark_at-next_table nodes start table arrival.node here arrival.crossed arrival.abroad same there within) ∙ marked in
    ap (λ found. is_some (option_and_then (λ (node : Node). first_step nodes start table node arrival node.exits) found)) there
    ∙ is_some-first_step nodes start table here arrival here.exits ∙ goes

-- ---- a walk is marked

or-regroup : (a b c d : Bool) → (a || ((b || c) || d)) ≡ ((a || b) || (c || d))
or-regroup true b c d = refl
or-regroup false true c d = refl
or-regroup false false c d = refl

or-assoc : (a b c : Bool) → (a || (b || c)) ≡ ((a || b) || c)
or-assoc true b c = refl
or-assoc false b c = refl

or-false_true : (b : Bool) → (b || false) ≡ true → b ≡ true
or-false_true true e = refl
or-false_true false e = e

-- an arrival that is marked marks the hops with which it may conflict
leaves_from_mark : (set : Set) (table : List Marks) (from to : Place) (n : ℕ) (crossed abroad : Bool) → Conflict set from to → slice_get (places_of set) n ≡ Some to →
    mark_at table n crossed abroad ≡ true → leaves table (at_place set from) crossed abroad ≡ true
leaves_from_mark set table from to n crossed abroad conflict there marked =
    let same : 0 + n ≡ n = omega arith in
    found-any (joins set from) (λ numbered. numbered.0) 0 (places_of set) n to there ((Decides-joins set from to).1 conflict) (λ next. mark_at table next crossed abroad)
    (ap (λ (m : ℕ). mark_at table m crossed abroad) same ∙ marked)

-- a trail from a hop back to the start is marked within its length
complete : (set : Set) (start : Place) (visits : List Visit) (from to : Place) (crossed abroad : Bool) → Trail set from visits to → to.program ≡ start.program →
    (crossed || (list_any crosses visits || not (to.hop == start.hop))) ≡ true → (abroad || list_any (differs set (origin_of set start.program)) visits) ≡ true →
    leaves (table_within (nodes_of set) (at_place set start) (length visits)) (at_place set from) crossed abroad ≡ true
complete set start [] from to crossed abroad trail same crosses_is abroad_is =
    let hop = hop_right set from to trail in
    let at = place_of set to hop.0 hop.1 in
    let goal_is = and_from _ _ (and_from _ _ (eq-eqb to.program start.program same) (or-false_true abroad abroad_is)) crosses_is in
    leaves_from_mark set (table_within (nodes_of set) (at_place set start) 0) from to at.0 crossed abroad trail at.1
    (ap (λ (table : List Marks). mark_at table at.0 crossed abroad) (table_within-zero (nodes_of set) (at_place set start))
    ∙ mark_at-first_table (nodes_of set) (at_place set start) at.0 (at_place set to) crossed abroad (node_at set at.0 to at.1) ∙ goal_is)
complete set start (visit ∷ visits) from to crossed abroad trail same crosses_is abroad_is =
    let entrance = entrance_of visit in
    let away = differs set (origin_of set start.program) visit in
    let table = table_within (nodes_of set) (at_place set start) (length visits) in
    let later : leaves table (at_place set (exit_of visit)) (crossed || crosses visit) (abroad || away) ≡ true =
    complete set start visits (exit_of visit) to (crossed || crosses visit) (abroad || away) trail.1 same
    (sym (or-regroup crossed (crosses visit) (list_any crosses visits) (not (to.hop == start.hop))) ∙ crosses_is)
    (sym (or-assoc abroad away (list_any (differs set (origin_of set start.program)) visits)) ∙ abroad_is) in
    let hop = hop_right set from entrance trail.0 in
    let at = place_of set entrance hop.0 hop.1 in
    let left_hop = Trail-begins set (exit_of visit) visits to trail.1 in
    let left = place_of set (exit_of visit) left_hop.0 left_hop.1 in
    let leaving : mark_at (leaving_table (nodes_of set) table) left.0 (crossed || crosses visit) (abroad || away) ≡ true =
    mark_at-leaving_table (nodes_of set) table left.0 (at_place set (exit_of visit)) (crossed || crosses visit) (abroad || away) (node_at set left.0 (exit_of visit) left.1) ∙ later in
    let zero_is : 0 + left.0 ≡ left.0 = omega arith in
    let goes : goes_on (leaving_table (nodes_of set) table) (at_place set start) (at_place set entrance) crossed abroad ≡ true =
    found-any {X = Exit} (λ other. other.program == visit.program) (λ numbered. record { hop = numbered.1.hop; node = numbered.0 }) 0 (places_of set) left.0 (exit_of visit) left.1
    (eq-eqb visit.program visit.program refl)
    (λ exit. mark_at (leaving_table (nodes_of set) table) exit.node (crossed || not (visit.entered == exit.hop)) (abroad || is_abroad (at_place set start) (at_place set entrance)))
    (ap (λ (m : ℕ). mark_at (leaving_table (nodes_of set) table) m (crossed || crosses visit) (abroad || away)) zero_is ∙ leaving) in
    let there = node_at set at.0 entrance at.1 in
    let long : length (visit ∷ visits) ≡ length visits + 1 = omega arith in
    leaves_from_mark set (table_within (nodes_of set) (at_place set start) (length (visit ∷ visits))) from entrance at.0 crossed abroad trail.0 at.1
    (ap (λ (m : ℕ). mark_at (table_within (nodes_of set) (at_place set start) m) at.0 crossed abroad) long
    ∙ ap (λ (marks : List Marks). mark_at marks at.0 crossed abroad) (table_within-suc (nodes_of set) (at_place set start) (length visits))
    ∙ mark_at-next_table (nodes_of set) (at_place set start) table at.0 (at_place set entrance) crossed abroad (length-table_within (nodes_of set) (at_place set start) (length visits)) there (slice_get_within (nodes_of set) at.0 (at_place set entrance) there)
    ∙ or_right _ _ goes)

-- ---- no walk

all_at : {X : Type 0} (P : X → Type 0) (xs : List X) (k : ℕ) (x : X) → All P xs → slice_get xs k ≡ Some x → P x
all_at P xs k x all there = subst P (get_or_from_slice_get xs k x x there) (all k x (slice_get_within xs k x there))

-- where no start closes a walk, no walk offends
pub accepted_from_none : (set : Set) → HasNone (nodes_of set) → NoWalkOffends set
accepted_from_none set none [] offending = absurd offending.0
accepted_from_none set none (only ∷ []) offending = absurd offending.0
accepted_from_none set none (first ∷ second ∷ rest) offending =
    let start = exit_of first in
    let trail = Trail-from_around set first first (second ∷ rest) offending.0 in
    let hop = Trail-begins set start (second ∷ rest) (entrance_of first) trail in
    let at = place_of set start hop.0 hop.1 in
    let some : (crosses first || list_any crosses (second ∷ rest)) ≡ true = (Decides-some_crosses (first ∷ second ∷ rest)).1 offending.1.crosses in
    let crossed : (list_any crosses (second ∷ rest) || crosses first) ≡ true = elim (or_cases (crosses first) (list_any crosses (second ∷ rest)) some) [
      | inl now ↦ or_right (list_any crosses (second ∷ rest)) (crosses first) now
      | inr later ↦ or_left (list_any crosses (second ∷ rest)) (crosses first) later
    ] in
    let abroad : list_any (differs set (origin_of set first.program)) (second ∷ rest) ≡ true = (Decides-leaves_origin set (first ∷ second ∷ rest)).1 offending.1.differ in
    let closes = complete set start (second ∷ rest) start (entrance_of first) false false trail refl crossed abroad in
    let closes_none : ClosesNone (nodes_of set) (at_place set start) = all_at (ClosesNone (nodes_of set)) (nodes_of set) at.0 (at_place set start) none (node_at set at.0 start at.1) in
    false≢true (sym (closes_none (length (second ∷ rest))) ∙ closes)
