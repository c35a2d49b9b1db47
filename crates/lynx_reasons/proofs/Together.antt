-- A closed walk lies in one group, so where no group is mixed none offends.
use Rattle.std.proofs.Common.{◌≡◌, ◌∙◌, ℕ, zero, suc, ◌<◌, false, not, List, [], ◌∷◌, filter, length, get_or, Option, Some, None, refl, sym, ap, subst, ⊎_elim, eq-eqb, arith}
use Rattle.std.specs.Prelude.{◌==◌, All, Contains, option_and_then, option_map, slice_get}
use Rattle.std.proofs.lemmas.Bool.{and_cases, not-false}
use Rattle.std.proofs.lemmas.List.Elements.{All-contains, All-from_get_or}
use Rattle.std.proofs.lemmas.Option.{get_or_from_slice_get, none-some, same_Some, slice_get-get_or, slice_get_within}
use Rattle.lynx_set.specs.declared.program.Hop.{Hop}
use Rattle.lynx_set.specs.declared.program.Program.{Program}
use Rattle.lynx_set.specs.Set.{Set}
use Rattle.lynx_set.specs.Lookups.{hop_at}
use Rattle.lynx_graph.specs.declared.members.Member.{Member}
use Rattle.lynx_graph.specs.declared.meeting.Place.{Place}
use Rattle.lynx_graph.specs.declared.visit.Visit.{Visit}
use Rattle.lynx_graph.specs.Edges.{edges_of}
use Rattle.lynx_graph.specs.Groups.{begin_at_one_server, group_of, leaders_of}
use Rattle.lynx_graph.specs.Together.{AreLed, AreTogether, IsLed, Meet}
use Rattle.lynx_graph.specs.Walks.{Joins, JoinsAround, NoWalkOffends}
use Rattle.lynx_graph.proofs.Lists.{slice_get-mapped, slice_get-range}
use Rattle.lynx_graph.proofs.Places.{hop_left}
use Rattle.lynx_late.proofs.Lists.{contains-filter, contains-map}
use Rattle.lynx_reasons.specs.Groups.{meet_at_one_hop}
use Rattle.lynx_reasons.specs.Mixed.{is_mixed}
use Rattle.lynx_reasons.specs.Reasons.{LiesIn, NoWalkOffendsIn}
use Rattle.lynx_reasons.proofs.Reasons.{one_hop_lem, one_origin_lem}
use Rattle.lynx_reasons.proofs.Ways.{Meet-swapped, itself, met, together_on}

-- ---- the visits of a closed walk

-- its program is together with that one, both ways, and is one of the set
record IsWith (set : Set) (program : ℕ) (visit : Visit) : Type 0 where
  there : AreTogether set program visit.program
  back : AreTogether set visit.program program
  within : visit.program < length set.programs

within_set : (set : Set) (program hop : ℕ) (found : Hop) → hop_at set program hop ≡ Some found → program < length set.programs
within_set set program hop found is = by_named (slice_get set.programs program) refl is
  where
    by_named : (known : Option (List ℕ × Program)) → slice_get set.programs program ≡ known →
        option_and_then (λ (of : Program). slice_get of.hops hop) (option_map (λ (named : List ℕ × Program). named.1) known) ≡ Some found → program < length set.programs
    by_named None at none = absurd (none-some found none)
    by_named (Some named) at some = slice_get_within set.programs program named at

joined_within : (set : Set) (visit next : Visit) → Joins set visit next → visit.program < length set.programs
joined_within set visit next joins =
    let left : Place = record { program = visit.program; hop = visit.left } in
    let right : Place = record { program = next.program; hop = next.entered } in
    let hop = hop_left set left right joins in
    within_set set visit.program visit.left hop.0 hop.1

joined_meet : (set : Set) (visit next : Visit) → Joins set visit next → Meet set visit.program next.program
joined_meet set visit next joins = record { left_hop = visit.left; right_hop = next.entered; conflict = joins }

with_all : (set : Set) (program : ℕ) (first visit : Visit) (rest : List Visit) → AreTogether set program visit.program → AreTogether set visit.program program →
    JoinsAround set first visit rest → (k : ℕ) (one : Visit) → slice_get (visit ∷ rest) k ≡ Some one → IsWith set program one
with_all set program first visit [] there back around zero one is =
    subst (IsWith set program) (same_Some visit one is) (record { there = there; back = back; within = joined_within set visit first around })
with_all set program first visit [] there back around (suc k) one is = absurd (none-some one is)
with_all set program first visit (next ∷ rest) there back around zero one is =
    subst (IsWith set program) (same_Some visit one is) (record { there = there; back = back; within = joined_within set visit next around.0 })
with_all set program first visit (next ∷ rest) there back around (suc k) one is =
    let meet = joined_meet set visit next around.0 in
    with_all set program first next rest
    (together_on set program visit.program next.program there (met set visit.program next.program meet))
    (together_on set next.program visit.program program (met set next.program visit.program (Meet-swapped set visit.program next.program meet)) back)
    around.1 k one is

-- ---- the members of one group

-- the member of a program
record Has (set : Set) (members : List Member) (program : ℕ) : Type 0 where
  member : Member
  there : Contains members member
  own : program ≡ member.program
  led : IsLed set member

member_of : (set : Set) (members : List Member) → AreLed set members → (program : ℕ) → program < length set.programs → Has set members program
member_of set members are program within =
    let named = ap (λ (programs : List ℕ). slice_get programs program) are.all ∙ slice_get-range (length set.programs) program within in
    let found = slice_get-mapped (λ (member : Member). member.program) members program program named in
    let there : Contains members found.0 = (program, slice_get_within members program found.0 found.1, get_or_from_slice_get members program found.0 found.0 found.1) in
    record { member = found.0; there = there; own = found.2; led = All-contains (IsLed set) members found.0 are.led there }

-- programs that are together have one leader
one_leader : (set : Set) (one other : Member) → IsLed set one → IsLed set other → AreTogether set one.program other.program → AreTogether set other.program one.program → one.leader ≡ other.leader
one_leader set one other led other_led there back =
    let upto = led.least other.leader (together_on set one.program other.program other.leader there other_led.together) in
    let from = other_led.least one.leader (together_on set other.program one.program one.leader back led.together) in
    omega (arith, upto, from)

-- the group of a program has each program that is together with it
in_group : (set : Set) (members : List Member) (first : Member) → AreLed set members → IsLed set first → (visit : Visit) → IsWith set first.program visit →
    Contains (group_of members first.leader) visit.program
in_group set members first are led visit is =
    let of = member_of set members are visit.program is.within in
    let same = one_leader set first of.member led of.led (subst (AreTogether set first.program) of.own is.there) (subst (λ (p : ℕ). AreTogether set p first.program) of.own is.back) in
    subst (Contains (group_of members first.leader)) (sym of.own)
    (contains-map (λ (member : Member). member.program) (filter (λ (member : Member). member.leader == first.leader) members) of.member
    (contains-filter (λ (member : Member). member.leader == first.leader) members of.member of.there (eq-eqb of.member.leader first.leader (sym same))))

-- a leader leads itself
leads : (set : Set) (members : List Member) (first : Member) → AreLed set members → IsLed set first → first.program < length set.programs → Contains (leaders_of members) first.leader
leads set members first are led within =
    let upto = led.least first.program (itself set first.program) in
    let of = member_of set members are first.leader (omega (arith, upto, within)) in
    let above = led.least of.member.leader (together_on set first.program first.leader of.member.leader led.together (subst (λ (p : ℕ). AreTogether set p of.member.leader) (sym of.own) of.led.together)) in
    let below = of.led.least of.member.program (itself set of.member.program) in
    let own = of.own in
    subst (Contains (leaders_of members)) (sym of.own)
    (contains-map (λ (member : Member). member.program) (filter (λ (member : Member). member.program == member.leader) members) of.member
    (contains-filter (λ (member : Member). member.program == member.leader) members of.member of.there (eq-eqb of.member.program of.member.leader (omega (arith, above, below, own)))))

-- ---- no group is mixed

-- no walk within a group that isn't mixed offends
pub unmixed : (set : Set) (leader : ℕ) (group : List ℕ) → is_mixed set (edges_of set) leader group ≡ false → NoWalkOffendsIn set group
unmixed set leader group is =
    ⊎_elim
    (λ begins. one_origin_lem set leader group (not-false _ begins))
    (λ meets. one_hop_lem set group (not-false _ meets))
    (and_cases (not (begin_at_one_server set leader group)) (not (meet_at_one_hop set (edges_of set) group)) is)

pub none_mixed_lem : (set : Set) (members : List Member) → AreLed set members → All (λ leader. is_mixed set (edges_of set) leader (group_of members leader) ≡ false) (leaders_of members) →
    NoWalkOffends set
none_mixed_lem set members are none [] offends = absurd offends.0
none_mixed_lem set members are none (only ∷ []) offends = absurd offends.0
none_mixed_lem set members are none (first ∷ second ∷ rest) offends =
    let walk = first ∷ second ∷ rest in
    let all = with_all set first.program first first (second ∷ rest) (itself set first.program) (itself set first.program) offends.0 in
    let own = all zero first refl in
    let of = member_of set members are first.program own.within in
    let led = of.led in
    let leader : Contains (leaders_of members) of.member.leader = leads set members of.member are led (subst (λ (p : ℕ). p < length set.programs) of.own own.within) in
    let lies : LiesIn (group_of members of.member.leader) walk = All-from_get_or (λ (visit : Visit). Contains (group_of members of.member.leader) visit.program) walk first
    (λ i below. let visit = get_or walk i first in
    in_group set members of.member are led visit
    (subst (λ (p : ℕ). IsWith set p visit) of.own (all i visit (slice_get-get_or walk i first below)))) in
    unmixed set of.member.leader (group_of members of.member.leader)
    (All-contains (λ leader. is_mixed set (edges_of set) leader (group_of members leader) ≡ false) (leaders_of members) of.member.leader none leader)
    walk lies offends
