-- Why no closed walk within a group offends.
use Rattle.std.proofs.Common.{◌≡◌, ◌∙◌, ℕ, zero, suc, ◌+◌, ◌<◌, ◌≤◌, ◌||◌, Bool, true, false, cond, nat_eq, nat_lt, List, [], ◌∷◌, length, Option, Some, None, refl, sym, ap, subst, ⊎_elim, eq-eqb, arith}
use Rattle.std.specs.Prelude.{◌==◌, ◌&&◌, Contains, filter, option_and_then, option_map, slice_get, slice_index_or, unwrap_or}
use Rattle.std.specs.List.{enumerate_from, list_all}
use Rattle.std.proofs.lemmas.Bool.{cases_lt, eqb-true, ltb-true}
use Rattle.std.proofs.lemmas.List.Folds.{list_any-from_Any}
use Rattle.std.proofs.lemmas.List.Sums.{AllPass-from_list_all}
use Rattle.std.proofs.lemmas.Option.{none-some, slice_get-get_or}
use Rattle.lynx_set.specs.declared.program.Hop.{Hop}
use Rattle.lynx_set.specs.declared.program.Program.{Program}
use Rattle.lynx_set.specs.Set.{Set}
use Rattle.lynx_set.specs.Lookups.{hop_at, hops_of, origin_of, program_at}
use Rattle.lynx_foot.specs.Conflicts.{MayConflict}
use Rattle.lynx_foot.proofs.ConflictLaws.{MayConflict-swapped}
use Rattle.lynx_graph.specs.declared.edges.Edge.{Edge}
use Rattle.lynx_graph.specs.declared.meeting.Place.{Place}
use Rattle.lynx_graph.specs.declared.visit.Visit.{Visit}
use Rattle.lynx_graph.specs.Edges.{edges_of}
use Rattle.lynx_graph.specs.Nodes.{places_of}
use Rattle.lynx_graph.specs.Groups.{begin_at_one_server}
use Rattle.lynx_graph.specs.Tests.{same_server}
use Rattle.lynx_graph.specs.Walks.{IsClosedWalk, JoinsAround}
use Rattle.lynx_graph.proofs.Conflicts.{conflicts_have_edges}
use Rattle.lynx_graph.proofs.Places.{hop_left, hop_right, place_of}
use Rattle.lynx_check.specs.Reasons.{IsExcuse, reason_of}
use Rattle.lynx_reasons.specs.declared.groups.GroupReason.TheVariants as reasons
use Rattle.lynx_reasons.specs.Groups.{group_reason, hops_met, is_met, meet_at_one_hop, set_reason}
use Rattle.lynx_reasons.specs.Reasons.{IsSoOf, LiesIn, NoWalkOffendsIn}

-- ---- what passes of a group

passes : (p : ℕ → Bool) (group : List ℕ) (x : ℕ) → list_all p group ≡ true → Contains group x → p x ≡ true
passes p group x all has = subst (λ (y : ℕ). p y ≡ true) has.2 (AllPass-from_list_all p group all has.0 x has.1)

visit_in : (group : List ℕ) (walk : List Visit) (k : ℕ) (visit : Visit) → LiesIn group walk → k < length walk → slice_index_or walk k visit ≡ visit →
    Contains group visit.program
visit_in group walk k visit lies below is = subst (λ (v : Visit). Contains group v.program) is (lies k visit below)

-- ---- a group of one origin

same_server_is : (a b : Option ℕ) → same_server a b ≡ true → a ≡ b
same_server_is (Some l) (Some r) e = ap Some (eqb-true l r e)
same_server_is (Some l) None e = cc
same_server_is None (Some r) e = cc
same_server_is None None e = refl

pub one_origin_lem : (set : Set) (leader : ℕ) (group : List ℕ) → begin_at_one_server set leader group ≡ true → NoWalkOffendsIn set group
one_origin_lem set leader group begins walk lies offends =
    let differ = offends.1.differ in
    let other = differ.4 in
    other.4 (origin differ.1 (visit_in group walk differ.0 differ.1 lies differ.2 differ.3) ∙ sym (origin other.1 (visit_in group walk other.0 other.1 lies other.2 other.3)))
  where
    origin : (visit : Visit) → Contains group visit.program → origin_of set visit.program ≡ origin_of set leader
    origin visit has = same_server_is _ _ (passes (λ program. same_server (origin_of set program) (origin_of set leader)) group visit.program begins has)

-- ---- hops of a walk meet others

-- the hop may conflict with some hop
abbrev Meets : Set → ℕ → ℕ → Type 0
Meets set program hop = (other : ℕ) × (other_hop : ℕ) × MayConflict set program hop other other_hop

-- the visits of the rest of a closed walk, and its first: each is left and entered by hops that meet others
record AreMet (set : Set) (first visit : Visit) (rest : List Visit) : Type 0 where
  left : (k : ℕ) (one : Visit) → slice_get (visit ∷ rest) k ≡ Some one → Meets set one.program one.left
  entered : (k : ℕ) (one : Visit) → slice_get rest k ≡ Some one → Meets set one.program one.entered
  closes : Meets set first.program first.entered

are_met : (set : Set) (first visit : Visit) (rest : List Visit) → JoinsAround set first visit rest → AreMet set first visit rest
are_met set first visit [] joins = record { left = left; entered = λ k one there. cc; closes = (visit.program, visit.left, MayConflict-swapped set visit.program visit.left first.program first.entered joins) }
  where
    left : (k : ℕ) (one : Visit) → slice_get (visit ∷ []) k ≡ Some one → Meets set one.program one.left
    left zero one there = let same : visit ≡ one = cc in subst (λ (v : Visit). Meets set v.program v.left) same (first.program, first.entered, joins)
    left (suc k) one there = cc
are_met set first visit (next ∷ rest) joins = met_on (are_met set first next rest joins.1)
  where
    met_on : AreMet set first next rest → AreMet set first visit (next ∷ rest)
    met_on later = record { left = left; entered = entered; closes = later.closes }
      where
        left : (k : ℕ) (one : Visit) → slice_get (visit ∷ next ∷ rest) k ≡ Some one → Meets set one.program one.left
        left zero one there = let same : visit ≡ one = cc in subst (λ (v : Visit). Meets set v.program v.left) same (next.program, next.entered, joins.0)
        left (suc k) one there = later.left k one there

        entered : (k : ℕ) (one : Visit) → slice_get (next ∷ rest) k ≡ Some one → Meets set one.program one.entered
        entered zero one there =
            let same : next ≡ one = cc in
            subst (λ (v : Visit). Meets set v.program v.entered) same
            (visit.program, visit.left, MayConflict-swapped set visit.program visit.left next.program next.entered joins.0)
        entered (suc k) one there = later.entered k one there

record IsMetAt (set : Set) (visit : Visit) : Type 0 where
  left : Meets set visit.program visit.left
  entered : Meets set visit.program visit.entered

each_met : (set : Set) (walk : List Visit) → IsClosedWalk set walk → (k : ℕ) (one : Visit) → slice_get walk k ≡ Some one → IsMetAt set one
each_met set [] closed k one there = absurd closed
each_met set (only ∷ []) closed k one there = absurd closed
each_met set (first ∷ second ∷ rest) closed zero one there =
    let are = are_met set first first (second ∷ rest) closed in
    let same : first ≡ one = cc in
    record { left = are.left zero one there; entered = subst (λ (v : Visit). Meets set v.program v.entered) same are.closes }
each_met set (first ∷ second ∷ rest) closed (suc k) one there =
    let are = are_met set first first (second ∷ rest) closed in
    record { left = are.left (suc k) one there; entered = are.entered k one there }

-- ---- and so have edges

or_left : (a b : Bool) → a ≡ true → (a || b) ≡ true
or_left true b e = refl
or_left false b e = cc

or_right : (a b : Bool) → b ≡ true → (a || b) ≡ true
or_right true b e = refl
or_right false b e = e

-- an end of the edge is that hop
abbrev ends_at : ℕ → ℕ → Edge → Bool
ends_at program hop edge = (edge.left.program == program && edge.left.hop == hop) || (edge.right.program == program && edge.right.hop == hop)

itself : (program hop : ℕ) → (program == program && hop == hop) ≡ true
itself program hop = by (nat_eq program program) (nat_eq hop hop) (eq-eqb program program refl) (eq-eqb hop hop refl)
  where
    by : (a b : Bool) → a ≡ true → b ≡ true → (a && b) ≡ true
    by true b ea eb = eb
    by false b ea eb = cc

met_by : (set : Set) (program hop : ℕ) (edge : Edge) → Contains (edges_of set) edge → ends_at program hop edge ≡ true → is_met (edges_of set) program hop ≡ true
met_by set program hop edge has ends = list_any-from_Any (ends_at program hop) (edges_of set) (has.0, edge, has.1, has.2, ends)

has_edge : (set : Set) (program hop : ℕ) → Meets set program hop → is_met (edges_of set) program hop ≡ true
has_edge set program hop meets = ⊎_elim before after (cases_lt from.0 to.0)
  where
    here : Place
    here = record { program = program; hop = hop }

    there : Place
    there = record { program = meets.0; hop = meets.1 }

    from : (n : ℕ) × (slice_get (places_of set) n ≡ Some here)
    from = let found = hop_left set here there meets.2 in place_of set here found.0 found.1

    to : (n : ℕ) × (slice_get (places_of set) n ≡ Some there)
    to = let found = hop_right set here there meets.2 in place_of set there found.0 found.1

    before : from.0 < to.0 → is_met (edges_of set) program hop ≡ true
    before lt =
        let edge : Edge = record { left = here; right = there } in
        met_by set program hop edge (conflicts_have_edges set from.0 to.0 edge (omega (arith, lt)) from.1 to.1 meets.2)
        (or_left (program == program && hop == hop) (meets.0 == program && meets.1 == hop) (itself program hop))

    after : to.0 ≤ from.0 → is_met (edges_of set) program hop ≡ true
    after le =
        let edge : Edge = record { left = there; right = here } in
        met_by set program hop edge (conflicts_have_edges set to.0 from.0 edge le to.1 from.1 (MayConflict-swapped set program hop meets.0 meets.1 meets.2))
        (or_right (meets.0 == program && meets.1 == hop) (program == program && hop == hop) (itself program hop))

-- ---- two hops of a program are counted

hop_there : (set : Set) (program hop : ℕ) (found : Hop) → hop_at set program hop ≡ Some found → slice_get (hops_of set program) hop ≡ Some found
hop_there set program hop found is = by (program_at set program) is
  where
    by : (known : Option Program) → option_and_then (λ of. slice_get of.hops hop) known ≡ Some found →
        slice_get (unwrap_or (option_map (λ (of : Program). of.hops) known) []) hop ≡ Some found
    by None none = absurd (none-some found none)
    by (Some of) at = at

-- how many of the hops, numbered from there on, pass
abbrev passing : (ℕ → Bool) → ℕ → List Hop → ℕ
passing test from hops = length (filter (λ numbered. test numbered.0) (enumerate_from from hops))

one_more : (b : Bool) (first : ℕ × Hop) (rest : List (ℕ × Hop)) → b ≡ true → length (cond b (first ∷ rest) rest) ≡ length rest + 1
one_more true first rest e = omega arith
one_more false first rest e = cc

as_many : (b : Bool) (first : ℕ × Hop) (rest : List (ℕ × Hop)) → length rest ≤ length (cond b (first ∷ rest) rest)
as_many true first rest = omega arith
as_many false first rest = omega arith

one_passes : (test : ℕ → Bool) (from : ℕ) (hops : List Hop) (k : ℕ) (hop : Hop) → slice_get hops k ≡ Some hop → test (from + k) ≡ true → 0 < passing test from hops
one_passes test from [] k hop there is = cc
one_passes test from (first ∷ hops) zero hop there is =
    let here : test from ≡ true = subst (λ (n : ℕ). test n ≡ true) (let none : from + 0 ≡ from = omega arith in none) is in
    let count = one_more (test from) (from, first) (filter (λ numbered. test numbered.0) (enumerate_from (from + 1) hops)) here in
    omega (arith, count)
one_passes test from (first ∷ hops) (suc k) hop there is =
    let at : test ((from + 1) + k) ≡ true = subst (λ (n : ℕ). test n ≡ true) (let same : from + suc k ≡ (from + 1) + k = omega arith in same) is in
    let later = one_passes test (from + 1) hops k hop there at in
    let count = as_many (test from) (from, first) (filter (λ numbered. test numbered.0) (enumerate_from (from + 1) hops)) in
    omega (arith, later, count)

two_pass : (test : ℕ → Bool) (from : ℕ) (hops : List Hop) (j k : ℕ) (one other : Hop) → j < k → slice_get hops j ≡ Some one → slice_get hops k ≡ Some other →
    test (from + j) ≡ true → test (from + k) ≡ true → 1 < passing test from hops
two_pass test from [] j k one other less there is first second = cc
two_pass test from (head ∷ hops) j zero one other less there is first second = absurd (omega (arith, less))
two_pass test from (head ∷ hops) zero (suc k) one other less there is first second =
    let here : test from ≡ true = subst (λ (n : ℕ). test n ≡ true) (let none : from + 0 ≡ from = omega arith in none) first in
    let at : test ((from + 1) + k) ≡ true = subst (λ (n : ℕ). test n ≡ true) (let same : from + suc k ≡ (from + 1) + k = omega arith in same) second in
    let later = one_passes test (from + 1) hops k other is at in
    let count = one_more (test from) (from, head) (filter (λ numbered. test numbered.0) (enumerate_from (from + 1) hops)) here in
    omega (arith, later, count)
two_pass test from (head ∷ hops) (suc j) (suc k) one other less there is first second =
    let at : test ((from + 1) + j) ≡ true = subst (λ (n : ℕ). test n ≡ true) (let same : from + suc j ≡ (from + 1) + j = omega arith in same) first in
    let at_other : test ((from + 1) + k) ≡ true = subst (λ (n : ℕ). test n ≡ true) (let same : from + suc k ≡ (from + 1) + k = omega arith in same) second in
    let later = two_pass test (from + 1) hops j k one other (omega (arith, less)) there is at at_other in
    let count = as_many (test from) (from, head) (filter (λ numbered. test numbered.0) (enumerate_from (from + 1) hops)) in
    omega (arith, later, count)

-- a program of the group meets others at one hop at most
met_once : (set : Set) (program j k : ℕ) → hops_met set (edges_of set) program < 2 → Meets set program j → Meets set program k → j < k → ⊥
met_once set program j k few first second less =
    let one = hop_left set (record { program = program; hop = j }) (record { program = first.0; hop = first.1 }) first.2 in
    let other = hop_left set (record { program = program; hop = k }) (record { program = second.0; hop = second.1 }) second.2 in
    let test : ℕ → Bool = is_met (edges_of set) program in
    let from_j : test (0 + j) ≡ true = subst (λ (n : ℕ). test n ≡ true) (let same : j ≡ 0 + j = omega arith in same) (has_edge set program j first) in
    let from_k : test (0 + k) ≡ true = subst (λ (n : ℕ). test n ≡ true) (let same : k ≡ 0 + k = omega arith in same) (has_edge set program k second) in
    let many = two_pass test 0 (hops_of set program) j k one.0 other.0 less (hop_there set program j one.0 one.1) (hop_there set program k other.0 other.1) from_j from_k in
    omega (arith, many, few)

-- ---- a group that meets at one hop

pub one_hop_lem : (set : Set) (group : List ℕ) → meet_at_one_hop set (edges_of set) group ≡ true → NoWalkOffendsIn set group
one_hop_lem set group meet walk lies offends =
    let crossing = offends.1.crosses in
    let visit = crossing.1 in
    let there : slice_get walk crossing.0 ≡ Some visit = slice_get-get_or walk crossing.0 visit crossing.2 ∙ ap Some crossing.3 in
    let met = each_met set walk offends.0 crossing.0 visit there in
    let few : hops_met set (edges_of set) visit.program < 2 =
    ltb-true _ _ (passes (λ program. nat_lt (hops_met set (edges_of set) program) 2) group visit.program meet (visit_in group walk crossing.0 visit lies crossing.2 crossing.3)) in
    ⊎_elim (λ less. met_once set visit.program visit.entered visit.left few met.entered met.left less)
    (λ more. ⊎_elim (λ less. met_once set visit.program visit.left visit.entered few met.left met.entered less)
    (λ again. crossing.4 (let same : visit.entered ≡ visit.left = omega (arith, more, again) in same)) (cases_lt visit.left visit.entered)) (cases_lt visit.entered visit.left)

-- ---- the reason that is told

pub told_lem : (set : Set) (excused : Option (List Visit)) (leader : ℕ) (group : List ℕ) → IsExcuse set excused →
    IsSoOf set group (group_reason set (edges_of set) (reason_of excused) leader group)
told_lem set excused leader group excuse = by (begin_at_one_server set leader group) (meet_at_one_hop set (edges_of set) group) refl refl
  where
    whole : (known : Option (List Visit)) → IsExcuse set known → IsSoOf set group (set_reason (reason_of known))
    whole None none = none
    whole (Some walk) is = is.1

    by : (begin meet : Bool) → begin_at_one_server set leader group ≡ begin → meet_at_one_hop set (edges_of set) group ≡ meet →
        IsSoOf set group (cond begin reasons.OneOrigin (cond meet reasons.OneHop (set_reason (reason_of excused))))
    by true meet begins meets = one_origin_lem set leader group begins
    by false true begins meets = one_hop_lem set group meets
    by false false begins meets = whole excused excuse
