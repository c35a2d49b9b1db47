-- Reading a walk off the tables of its start, level by level.
use Rattle.std.proofs.Common.{◌≡◌, ℕ, ◌+◌, ◌<◌, Bool, true, false, List, [], ◌∷◌, ◌++◌, length, get_or, Option, Some, None, refl, sym, ap, ◌∙◌, arith}
use Rattle.std.specs.Prelude.{Contains, insert, is_some, slice_get}
use Rattle.std.specs.Option.{option_map_or}
use Rattle.std.proofs.lemmas.Bool.{false≢true}
use Rattle.std.proofs.lemmas.Option.{slice_get-get_or, slice_get_within}
use Rattle.std.proofs.lemmas.List.FromFn.{get_or-map-range_with_len}
use Rattle.lynx_set.specs.Set.{Set}
use Rattle.lynx_graph.specs.declared.nodes.Node.{Node}
use Rattle.lynx_check.specs.declared.marks.Marks.{Marks}
use Rattle.lynx_check.specs.declared.tracing.Arrival.{Arrival}
use Rattle.lynx_check.specs.declared.tracing.Traced.{Traced}
use Rattle.lynx_graph.specs.declared.visit.Visit.{Visit}
use Rattle.lynx_graph.specs.Nodes.{nodes_of}
use Rattle.lynx_check.specs.inner.Marks.{first_table, mark, mark_at, next_table, table_within}
use Rattle.lynx_check.specs.inner.Tracing.{AreLevels, IsSound, arrival_after, next_step}
use Rattle.lynx_check.proofs.Complete.{next_step-some}
use Rattle.lynx_graph.proofs.Lists.{slice_get-within}
use Rattle.lynx_graph.proofs.Places.{place_at}
use Rattle.lynx_check.proofs.Sound.{Leads, Leads-first, Leads-step, arrival_after-marked, at_place, first_of, next_step-marked, offends_from_Leads}
use Rattle.lynx_check.proofs.Tables.{length-table_within, table_within-suc, table_within-zero}

-- the start is the node of its place
start_is : (set : Set) (nodes : List Node) (start : Node) → Contains nodes start → nodes ≡ nodes_of set → start ≡ at_place set start.place
start_is set nodes start at same =
    let there : slice_get (nodes_of set) at.0 ≡ Some start = ap (λ (all : List Node). slice_get all at.0) (sym same) ∙ slice_get-get_or nodes at.0 start at.1 ∙ ap Some at.2 in
    let place = place_at set at.0 start there in
    place.2 ∙ ap (at_place set) (sym (ap (λ (node : Node). node.place) place.2))

-- the visits so far lead to the arrival, which is marked at this level
pub record Reads (nodes : List Node) (start : Node) (visits : List Visit) (level : ℕ) (arrival : Arrival) : Type 0 where
  pub leads : (set : Set) → nodes ≡ nodes_of set → Leads set start.place visits arrival
  pub marked : mark_at (table_within nodes start level) arrival.node arrival.crossed arrival.abroad ≡ true

pub level_at : (nodes : List Node) (start : Node) (levels : List (List Marks)) (level : ℕ) (other : List Marks) → AreLevels nodes start levels → level < length levels →
    get_or levels level other ≡ table_within nodes start level
level_at nodes start levels level other are within =
    ap (λ (all : List (List Marks)). get_or all level other) are.tables ∙ get_or-map-range_with_len (table_within nodes start) 0 (length levels) level level other within (omega arith)

-- a first arrival
pub Reads-first : (nodes : List Node) (start : Node) (table : List Marks) (level : ℕ) (arrival : Arrival) → Contains nodes start → table ≡ table_within nodes start level →
    arrival_after table start false false ≡ Some arrival → Reads nodes start [] level arrival
Reads-first nodes start table level arrival at is e = record {
  leads = λ set same. Leads-first set table start.place arrival (ap (λ (node : Node). arrival_after table node false false) (sym (start_is set nodes start at same)) ∙ e);
  marked = ap (λ (marks : List Marks). mark_at marks arrival.node arrival.crossed arrival.abroad) (sym is) ∙ arrival_after-marked table start false false arrival e;
}

pub Reads-step : (nodes : List Node) (start : Node) (visits : List Visit) (table : List Marks) (level before : ℕ) (arrival : Arrival) (step : Traced) → Reads nodes start visits before arrival → Contains nodes start →
    table ≡ table_within nodes start level → next_step nodes start table arrival ≡ Some step → Reads nodes start (visits ++ step.visit ∷ []) level step.next
Reads-step nodes start visits table level before arrival step reads at is e = record {
  leads = λ set same. Leads-step set table start.place visits arrival step (reads.leads set same)
      (ap (λ (all : List Node). next_step all (at_place set start.place) table arrival) (sym same) ∙ ap (λ (node : Node). next_step nodes node table arrival) (sym (start_is set nodes start at same)) ∙ e);
  marked = ap (λ (marks : List Marks). mark_at marks step.next.node step.next.crossed step.next.abroad) (sym is) ∙ next_step-marked nodes start table arrival step e;
}

-- what is marked is in the table
mark_at-within : (table : List Marks) (n : ℕ) (crossed abroad : Bool) → mark_at table n crossed abroad ≡ true → n < length table
mark_at-within table n crossed abroad marked = by_place (slice_get table n) refl marked
  where
    by_place : (there : Option Marks) → slice_get table n ≡ there → option_map_or (λ (marks : Marks). mark marks crossed abroad) there false ≡ true → n < length table
    by_place None is e = absurd (false≢true e)
    by_place (Some marks) is e = slice_get_within table n marks is

pub Reads-within : (nodes : List Node) (start : Node) (visits : List Visit) (level : ℕ) (arrival : Arrival) → Reads nodes start visits level arrival → arrival.node < length nodes
Reads-within nodes start visits level arrival reads =
    let within = mark_at-within (table_within nodes start level) arrival.node arrival.crossed arrival.abroad reads.marked in
    omega (arith, within, length-table_within nodes start level)

-- a mark that the level below has not is left by a step
pub Reads-some : (nodes : List Node) (start : Node) (visits : List Visit) (table : List Marks) (level before : ℕ) (arrival : Arrival) → Reads nodes start visits before arrival → before ≡ level + 1 →
    table ≡ table_within nodes start level → mark_at table arrival.node arrival.crossed arrival.abroad ≡ false → is_some (next_step nodes start table arrival) ≡ true
Reads-some nodes start visits table level before arrival reads more is unmarked =
    let here = slice_get-within nodes arrival.node (Reads-within nodes start visits before arrival reads) in
    next_step-some nodes start table arrival here.0 (ap length is ∙ length-table_within nodes start level) here.1
    (ap (λ (marks : List Marks). mark_at (next_table nodes start marks) arrival.node arrival.crossed arrival.abroad) is
    ∙ ap (λ (marks : List Marks). mark_at marks arrival.node arrival.crossed arrival.abroad) (sym (table_within-suc nodes start level))
    ∙ ap (λ (n : ℕ). mark_at (table_within nodes start n) arrival.node arrival.crossed arrival.abroad) (sym more)
    ∙ reads.marked)
    unmarked

-- at the lowest level the walk is whole
pub Reads-all : (nodes : List Node) (start : Node) (visits : List Visit) (level : ℕ) (arrival : Arrival) (last : Node) → Reads nodes start visits level arrival → Contains nodes start → level ≡ 0 →
    slice_get nodes arrival.node ≡ Some last → IsSound nodes (first_of start.place last.place ∷ visits)
Reads-all nodes start visits level arrival last reads at none there set same =
    offends_from_Leads set start.place visits arrival last (reads.leads set same) (ap (λ (all : List Node). slice_get all arrival.node) (sym same) ∙ there)
    (ap (λ (all : List Node). mark_at (first_table all (at_place set start.place)) arrival.node arrival.crossed arrival.abroad) (sym same)
    ∙ ap (λ (node : Node). mark_at (first_table nodes node) arrival.node arrival.crossed arrival.abroad) (sym (start_is set nodes start at same))
    ∙ ap (λ (marks : List Marks). mark_at marks arrival.node arrival.crossed arrival.abroad) (sym (table_within-zero nodes start))
    ∙ ap (λ (n : ℕ). mark_at (table_within nodes start n) arrival.node arrival.crossed arrival.abroad) (sym none)
    ∙ reads.marked)

pub insert-first : {X : Type 0} (xs : List X) (x : X) → insert xs 0 x ≡ x ∷ xs
insert-first xs x = refl
