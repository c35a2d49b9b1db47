-- The walk that is read off the tables is closed, and offends.
use Rattle.std.proofs.Common.{◌≡◌, ℕ, ◌+◌, Bool, true, false, not, ◌||◌, List, [], ◌∷◌, ◌++◌, Option, Some, None, zero, suc, refl, sym, ap, subst, ◌∙◌, inl, inr, arith}
use Rattle.std.specs.Prelude.{◌==◌, find, option_and_then, option_map, slice_get}
use Rattle.std.specs.List.{list_any}
use Rattle.std.proofs.lemmas.Bool.{and_from, and_parts, eqb-true, false≢true, or_cases, or_left, or_right}
use Rattle.std.proofs.lemmas.List.Folds.{list_any-append}
use Rattle.std.proofs.lemmas.Option.{none-some, same_Some}
use Rattle.lynx_set.specs.Set.{Set}
use Rattle.lynx_graph.specs.declared.meeting.Place.{Place}
use Rattle.lynx_graph.specs.declared.nodes.Exit.{Exit}
use Rattle.lynx_graph.specs.declared.nodes.Node.{Node}
use Rattle.lynx_check.specs.declared.marks.Marks.{Marks}
use Rattle.lynx_check.specs.declared.tracing.Arrival.{Arrival}
use Rattle.lynx_check.specs.declared.tracing.Traced.{Traced}
use Rattle.lynx_graph.specs.declared.visit.Visit.{Visit}
use Rattle.lynx_graph.specs.Walks.{IsOffending}
use Rattle.lynx_graph.specs.Tests.{joins}
use Rattle.lynx_graph.specs.inner.Tests.{crosses, differs, entrance_of, offends}
use Rattle.lynx_graph.specs.Nodes.{places_of, node_of, nodes_of}
use Rattle.lynx_check.specs.inner.Marks.{first_table, is_abroad, is_goal, mark_at}
use Rattle.lynx_check.specs.inner.Tracing.{arrival_after, first_step, next_step, step_by}
use Rattle.std.specs.Option.{option_or}
use Rattle.lynx_graph.proofs.Decides.{Decides-joins, Decides-joins_around, Decides-offends}
use Rattle.lynx_graph.proofs.Lists.{find-Some, found-Some}
use Rattle.lynx_graph.proofs.Places.{Conflict, node_at, place_at}
use Rattle.lynx_check.proofs.Tables.{mark_at-first_table}
use Rattle.lynx_check.proofs.Trails.{Trail, Trail-push, around_from_Trail}
use Rattle.lynx_set.specs.Lookups.{origin_of}

-- the node of a place of the set
abbrev pub at_place : Set → Place → Node
at_place set place = node_of set (places_of set) place

-- the visits after the first lead from the start to the arrival, and do what it says
pub record Leads (set : Set) (start : Place) (visits : List Visit) (arrival : Arrival) : Type 0 where
  pub here : Place
  pub there : slice_get (places_of set) arrival.node ≡ Some here
  pub trail : Trail set start visits here
  pub crossed : arrival.crossed ≡ list_any crosses visits
  pub abroad : arrival.abroad ≡ list_any (differs set (origin_of set start.program)) visits

-- what comes of an option that is mapped
pub option_map-Some : {X Y : Type 0} (f : X → Y) (o : Option X) (y : Y) → option_map f o ≡ Some y → (x : X) × (o ≡ Some x) × (f x ≡ y)
option_map-Some f None y e = absurd (none-some y e)
option_map-Some f (Some x) y e = (x, refl, same_Some (f x) y e)

pub option_and_then-Some : {X Y : Type 0} (f : X → Option Y) (o : Option X) (y : Y) → option_and_then f o ≡ Some y → (x : X) × (o ≡ Some x) × (f x ≡ Some y)
option_and_then-Some f None y e = absurd (none-some y e)
option_and_then-Some f (Some x) y e = (x, refl, e)

-- ---- an arrival after a hop that is left

record Arrives (set : Set) (left : Place) (crossed abroad : Bool) (arrival : Arrival) : Type 0 where
  pub here : Place
  pub there : slice_get (places_of set) arrival.node ≡ Some here
  pub conflict : Conflict set left here
  pub crossed_is : arrival.crossed ≡ crossed
  pub abroad_is : arrival.abroad ≡ abroad

arrives : (set : Set) (table : List Marks) (left : Place) (crossed abroad : Bool) (arrival : Arrival) → arrival_after table (at_place set left) crossed abroad ≡ Some arrival → Arrives set left crossed abroad arrival
arrives set table left crossed abroad arrival e =
    let mapped = option_map-Some {Y = Arrival} (λ next. record { node = next; crossed = crossed; abroad = abroad }) (find (λ next. mark_at table next crossed abroad) (at_place set left).neighbours) arrival e in
    let first = find-Some (λ next. mark_at table next crossed abroad) (at_place set left).neighbours mapped.0 mapped.1 in
    let neighbour = found-Some (joins set left) (λ (numbered : ℕ × Place). numbered.0) 0 (places_of set) first.0 mapped.0 first.1 in
    let same : neighbour.at ≡ arrival.node = (let at : neighbour.at ≡ 0 + neighbour.at = omega arith in at ∙ sym neighbour.made ∙ ap (λ (a : Arrival). a.node) mapped.2) in
    record {
      here = neighbour.place;
      there = subst (λ (n : ℕ). slice_get (places_of set) n ≡ Some neighbour.place) same neighbour.there;
      conflict = (Decides-joins set left neighbour.place).0 neighbour.passes;
      crossed_is = ap (λ (a : Arrival). a.crossed) (sym mapped.2);
      abroad_is = ap (λ (a : Arrival). a.abroad) (sym mapped.2);
    }

-- such an arrival is marked
pub arrival_after-marked : (table : List Marks) (left : Node) (crossed abroad : Bool) (arrival : Arrival) → arrival_after table left crossed abroad ≡ Some arrival →
    mark_at table arrival.node arrival.crossed arrival.abroad ≡ true
arrival_after-marked table left crossed abroad arrival e =
    let mapped = option_map-Some {Y = Arrival} (λ next. record { node = next; crossed = crossed; abroad = abroad }) (find (λ next. mark_at table next crossed abroad) left.neighbours) arrival e in
    let first = find-Some (λ next. mark_at table next crossed abroad) left.neighbours mapped.0 mapped.1 in
    subst (λ (a : Arrival). mark_at table a.node a.crossed a.abroad ≡ true) mapped.2 first.2

-- the first arrival
pub Leads-first : (set : Set) (table : List Marks) (start : Place) (arrival : Arrival) → arrival_after table (at_place set start) false false ≡ Some arrival → Leads set start [] arrival
Leads-first set table start arrival e =
    let first = arrives set table start false false arrival e in
    record { here = first.here; there = first.there; trail = first.conflict; crossed = first.crossed_is; abroad = first.abroad_is }

-- ---- one visit more

or-false : (b : Bool) → b ≡ (b || false)
or-false true = refl
or-false false = refl

record IsStep (nodes : List Node) (start : Node) (table : List Marks) (here : Node) (arrival : Arrival) (exits : List Exit) (step : Traced) : Type 0 where
  pub at : ℕ
  pub exit : Exit
  pub there : slice_get exits at ≡ Some exit
  pub gives : step_by nodes start table here arrival exit ≡ Some step

first_step-Some : (nodes : List Node) (start : Node) (table : List Marks) (here : Node) (arrival : Arrival) (exits : List Exit) (step : Traced) →
    first_step nodes start table here arrival exits ≡ Some step → IsStep nodes start table here arrival exits step
first_step-Some nodes start table here arrival [] step e = absurd (none-some step e)
first_step-Some nodes start table here arrival (exit ∷ exits) step e =
    by_step (step_by nodes start table here arrival exit) refl e (first_step-Some nodes start table here arrival exits step)
  where
    by_step : (o : Option Traced) → step_by nodes start table here arrival exit ≡ o → option_or o (first_step nodes start table here arrival exits) ≡ Some step →
        (first_step nodes start table here arrival exits ≡ Some step → IsStep nodes start table here arrival exits step) → IsStep nodes start table here arrival (exit ∷ exits) step
    by_step None is found later = let rest = later found in record { at = suc rest.at; exit = rest.exit; there = rest.there; gives = rest.gives }
    by_step (Some first) is found later = record { at = zero; exit = exit; there = refl; gives = is ∙ found }

-- the exit of a node is a hop of the node's program
record IsExit (set : Set) (here left : Place) (exit : Exit) : Type 0 where
  pub same : record { program = here.program; hop = exit.hop } ≡ left

exit_is : (set : Set) (here left : Place) (at : ℕ) (exit : Exit) → slice_get (at_place set here).exits at ≡ Some exit → slice_get (places_of set) exit.node ≡ Some left → IsExit set here left exit
exit_is set here left at exit there at_left =
    let of = found-Some {X = Exit} (λ other. other.program == here.program) (λ numbered. record { hop = numbered.1.hop; node = numbered.0 }) 0 (places_of set) at exit there in
    let node : exit.node ≡ of.at = (let same : 0 + of.at ≡ of.at = omega arith in ap (λ (x : Exit). x.node) of.made ∙ same) in
    let place : of.place ≡ left = same_Some of.place left (sym of.there ∙ ap (slice_get (places_of set)) (sym node) ∙ at_left) in
    let program : here.program ≡ of.place.program = sym (eqb-true of.place.program here.program of.passes) in
    let hop : exit.hop ≡ of.place.hop = ap (λ (x : Exit). x.hop) of.made in
    record { same = ap (λ (p : ℕ). let it : Place = record { program = p; hop = exit.hop } in it) program ∙ ap (λ (h : ℕ). let it : Place = record { program = of.place.program; hop = h } in it) hop ∙ place }

-- the step by an exit
step_leads : (set : Set) (table : List Marks) (start : Place) (visits : List Visit) (arrival : Arrival) (step : Traced) (lead : Leads set start visits arrival) (at : ℕ) (exit : Exit) →
    slice_get (at_place set lead.here).exits at ≡ Some exit → step_by (nodes_of set) (at_place set start) table (at_place set lead.here) arrival exit ≡ Some step →
    Leads set start (visits ++ step.visit ∷ []) step.next
step_leads set table start visits arrival step lead at exit there gives =
    let here = lead.here in
    let visit : Visit = record { program = here.program; entered = here.hop; left = exit.hop } in
    let crossed = arrival.crossed || not (here.hop == exit.hop) in
    let abroad = arrival.abroad || differs set (origin_of set start.program) visit in
    let mapped = option_map-Some {Y = Traced} (λ next. record { visit = visit; next = next })
    (option_and_then (λ left. arrival_after table left crossed abroad) (slice_get (nodes_of set) exit.node)) step gives in
    let chained = option_and_then-Some (λ left. arrival_after table left crossed abroad) (slice_get (nodes_of set) exit.node) mapped.0 mapped.1 in
    let left = place_at set exit.node chained.0 chained.1 in
    let next = arrives set table left.0 crossed abroad mapped.0 (ap (λ (node : Node). arrival_after table node crossed abroad) (sym left.2) ∙ chained.2) in
    let from = exit_is set here left.0 at exit there left.1 in
    subst (λ (s : Traced). Leads set start (visits ++ s.visit ∷ []) s.next) mapped.2 (record {
      here = next.here;
      there = next.there;
      trail = Trail-push set start visits visit next.here lead.trail (subst (λ (place : Place). Conflict set place next.here) (sym from.same) next.conflict);
      crossed = next.crossed_is ∙ ap (λ b. b || crosses visit) lead.crossed ∙ ap (λ b. list_any crosses visits || b) (or-false (crosses visit)) ∙ sym (list_any-append crosses visits (visit ∷ []));
      abroad = next.abroad_is ∙ ap (λ b. b || differs set (origin_of set start.program) visit) lead.abroad
          ∙ ap (λ b. list_any (differs set (origin_of set start.program)) visits || b) (or-false (differs set (origin_of set start.program) visit))
          ∙ sym (list_any-append (differs set (origin_of set start.program)) visits (visit ∷ []));
    })

-- the least step that the tables allow leads on
pub Leads-step : (set : Set) (table : List Marks) (start : Place) (visits : List Visit) (arrival : Arrival) (step : Traced) → Leads set start visits arrival →
    next_step (nodes_of set) (at_place set start) table arrival ≡ Some step → Leads set start (visits ++ step.visit ∷ []) step.next
Leads-step set table start visits arrival step lead e =
    let here = at_place set lead.here in
    let first : first_step (nodes_of set) (at_place set start) table here arrival here.exits ≡ Some step =
    sym (ap (option_and_then (λ (node : Node). first_step (nodes_of set) (at_place set start) table node arrival node.exits)) (node_at set arrival.node lead.here lead.there)) ∙ e in
    let by = first_step-Some (nodes_of set) (at_place set start) table here arrival here.exits step first in
    step_leads set table start visits arrival step lead by.at by.exit by.there by.gives

-- the arrival after a step is marked
pub next_step-marked : (nodes : List Node) (start : Node) (table : List Marks) (arrival : Arrival) (step : Traced) → next_step nodes start table arrival ≡ Some step →
    mark_at table step.next.node step.next.crossed step.next.abroad ≡ true
next_step-marked nodes start table arrival step e =
    let of = option_and_then-Some (λ (node : Node). first_step nodes start table node arrival node.exits) (slice_get nodes arrival.node) step e in
    let here = of.0 in
    let by = first_step-Some nodes start table here arrival here.exits step of.2 in
    let crossed = arrival.crossed || not (here.place.hop == by.exit.hop) in
    let abroad = arrival.abroad || is_abroad start here in
    let mapped = option_map-Some {Y = Traced} (λ next. record { visit = record { program = here.place.program; entered = here.place.hop; left = by.exit.hop }; next = next })
    (option_and_then (λ left. arrival_after table left crossed abroad) (slice_get nodes by.exit.node)) step by.gives in
    let chained = option_and_then-Some (λ left. arrival_after table left crossed abroad) (slice_get nodes by.exit.node) mapped.0 mapped.1 in
    subst (λ (s : Traced). mark_at table s.next.node s.next.crossed s.next.abroad ≡ true) mapped.2 (arrival_after-marked table chained.0 crossed abroad mapped.0 chained.2)

-- ---- the end

-- the walk's first visit
abbrev pub first_of : Place → Place → Visit
first_of start here = record { program = start.program; entered = here.hop; left = start.hop }

closes : (set : Set) (start here : Place) (visits : List Visit) → here.program ≡ start.program → Trail set start visits here →
    list_any (differs set (origin_of set start.program)) visits ≡ true → (list_any crosses visits || not (here.hop == start.hop)) ≡ true → offends set (first_of start here ∷ visits) ≡ true
closes set start here [] same trail abroad crossed = absurd (false≢true abroad)
closes set start here (visit ∷ visits) same trail abroad crossed =
    let first = first_of start here in
    let back : here ≡ entrance_of first = ap (λ (p : ℕ). let it : Place = record { program = p; hop = here.hop } in it) same in
    let around = around_from_Trail set first first (visit ∷ visits) (subst (λ (place : Place). Trail set start (visit ∷ visits) place) back trail) in
    and_from _ _
    (and_from _ _ ((Decides-joins_around set first first (visit ∷ visits)).1 around)
    (elim (or_cases (list_any crosses (visit ∷ visits)) (not (here.hop == start.hop)) crossed) [ inl later ↦ or_right _ _ later | inr now ↦ or_left _ _ now ]))
    abroad

-- an arrival that is marked with no further visit closes a walk that offends
pub offends_from_Leads : (set : Set) (start : Place) (visits : List Visit) (arrival : Arrival) (last : Node) → Leads set start visits arrival → slice_get (nodes_of set) arrival.node ≡ Some last →
    mark_at (first_table (nodes_of set) (at_place set start)) arrival.node arrival.crossed arrival.abroad ≡ true → IsOffending set (first_of start last.place ∷ visits)
offends_from_Leads set start visits arrival last lead at_last marked =
    let there = node_at set arrival.node lead.here lead.there in
    let goal_is : is_goal (at_place set start) (at_place set lead.here) arrival.crossed arrival.abroad ≡ true =
    sym (mark_at-first_table (nodes_of set) (at_place set start) arrival.node (at_place set lead.here) arrival.crossed arrival.abroad there) ∙ marked in
    let parts = and_parts _ _ goal_is in
    let firsts = and_parts _ _ parts.0 in
    let same : at_place set lead.here ≡ last = same_Some _ _ (sym there ∙ at_last) in
    subst (λ (node : Node). IsOffending set (first_of start node.place ∷ visits)) same
    ((Decides-offends set (first_of start lead.here ∷ visits)).0
    (closes set start lead.here visits (eqb-true _ _ firsts.0) lead.trail (sym lead.abroad ∙ firsts.1) (ap (λ b. b || not (lead.here.hop == start.hop)) (sym lead.crossed) ∙ parts.1)))
