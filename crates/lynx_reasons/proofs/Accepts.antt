-- Whether a set is accepted is told by its late blocks and its mixed groups.
use Rattle.std.proofs.Common.{◌≡◌, ◌≢◌, ◌∙◌, ℕ, ◌+◌, ◌≤◌, Bool, true, false, cond, not, ◌||◌, ◌&&◌, List, [], ◌∷◌, filter, length, inl, inr, ⊎_elim, refl, sym, ap, subst, arith}
use Rattle.std.specs.Prelude.{◌==◌, All, Contains, nat_lt}
use Rattle.std.specs.List.{enumerate_from, list_all, list_any}
use Rattle.std.proofs.lemmas.Bool.{and_cases, and_parts, cases_Bool, eq-eqb, eqb-true, false_from_ne_true, false≢true, ltb-false, not-true, not_from_false, or_cases, or_left, or_parts, or_right}
use Rattle.std.proofs.lemmas.List.{nil_from_length}
use Rattle.std.proofs.lemmas.List.Elements.{All-cons, All-contains, All-nil}
use Rattle.std.proofs.lemmas.List.Folds.{Any-from_list_any}
use Rattle.lynx_set.specs.Lookups.{hops_of, origin_of}
use Rattle.lynx_set.specs.Set.{Set}
use Rattle.lynx_foot.specs.Conflicts.{MayConflict}
use Rattle.lynx_foot.proofs.ConflictLaws.{MayConflict-swapped}
use Rattle.lynx_graph.specs.Acceptance.{IsAccepted}
use Rattle.lynx_graph.specs.Blocks.{NoBlockWalkOffends}
use Rattle.lynx_graph.specs.Edges.{IsConflict, edges_of}
use Rattle.lynx_graph.specs.Groups.{begin_at_one_server, group_of, leaders_of}
use Rattle.lynx_graph.specs.Tests.{same_server}
use Rattle.lynx_graph.specs.Together.{AreTogether, IsLed}
use Rattle.lynx_graph.specs.Walks.{NoWalkOffends}
use Rattle.lynx_graph.specs.declared.edges.Edge.{Edge}
use Rattle.lynx_graph.specs.declared.meeting.Place.{Place}
use Rattle.lynx_graph.specs.declared.members.Member.{Member}
use Rattle.lynx_graph.specs.inner.Joining.{alone, joined_by}
use Rattle.lynx_graph.proofs.Conflicts.{edges_conflict}
use Rattle.lynx_graph.proofs.Decides.{Decides-same_server}
use Rattle.lynx_graph.proofs.Joining.{are_led}
use Rattle.lynx_late.specs.Blocks.{late_blocks}
use Rattle.lynx_late.proofs.Late.{none_listed, none_offends}
use Rattle.lynx_late.proofs.Lists.{Contains-here, Contains-later, filter-contains, map-contains}
use Rattle.lynx_reasons.specs.declared.culprit.Culprit.{Culprit}
use Rattle.lynx_reasons.specs.Culprits.{Tells, set_without}
use Rattle.lynx_reasons.specs.Groups.{hops_met, is_met, meet_at_one_hop}
use Rattle.lynx_reasons.specs.Mixed.{is_mixed}
use Rattle.lynx_reasons.proofs.Together.{none_mixed_lem}
use Rattle.lynx_reasons.proofs.Ways.{HasEdge, together_back, together_on, walk_of_mixed}

-- ---- what passes, and what doesn't

one_fails : {X : Type 0} (test : X → Bool) (xs : List X) → list_all test xs ≡ false → (x : X) × Contains xs x × (test x ≡ false)
one_fails test [] fails = absurd (false≢true (sym fails))
one_fails test (x ∷ xs) fails =
    ⊎_elim
    (λ here. (x, Contains-here x xs, here))
    (λ later. let rest = one_fails test xs later in (rest.0, Contains-later x rest.0 xs rest.1, rest.2))
    (and_cases (test x) (list_all test xs) fails)

all_fail : {X : Type 0} (test : X → Bool) (xs : List X) → list_any test xs ≡ false → All (λ x. test x ≡ false) xs
all_fail test [] none = All-nil (λ x. test x ≡ false)
all_fail test (x ∷ xs) none = let parts = or_parts (test x) (list_any test xs) none in All-cons (λ y. test y ≡ false) x xs parts.0 (all_fail test xs parts.1)

-- numbers that pass, of those of a list
one_passes : {X : Type 0} (test : ℕ → Bool) (first : ℕ) (xs : List X) → 1 ≤ length (filter (λ (numbered : ℕ × X). test numbered.0) (enumerate_from first xs)) →
    (number : ℕ) × (first ≤ number) × (test number ≡ true)
one_passes test first [] some = absurd (omega (arith, some))
one_passes {X} test first (x ∷ xs) some = by (test first) refl some (λ later. one_passes test (first + 1) xs later)
  where
    rest : List (ℕ × X)
    rest = filter (λ (numbered : ℕ × X). test numbered.0) (enumerate_from (first + 1) xs)

    by : (b : Bool) → test first ≡ b → 1 ≤ length (cond b ((first, x) ∷ rest) rest) →
        (1 ≤ length rest → (number : ℕ) × (first + 1 ≤ number) × (test number ≡ true)) → (number : ℕ) × (first ≤ number) × (test number ≡ true)
    by true is one next = (first, omega arith, is)
    by false is one next = let found = next one in (found.0, omega (arith, found.1), found.2)

record TwoPass (test : ℕ → Bool) : Type 0 where
  pub one : ℕ
  pub other : ℕ
  pub differ : one ≢ other
  pub passes : test one ≡ true
  pub also : test other ≡ true

two_pass : {X : Type 0} (test : ℕ → Bool) (first : ℕ) (xs : List X) → 2 ≤ length (filter (λ (numbered : ℕ × X). test numbered.0) (enumerate_from first xs)) → TwoPass test
two_pass test first [] some = absurd (omega (arith, some))
two_pass {X} test first (x ∷ xs) some = by (test first) refl some (λ later. two_pass test (first + 1) xs later)
  where
    rest : List (ℕ × X)
    rest = filter (λ (numbered : ℕ × X). test numbered.0) (enumerate_from (first + 1) xs)

    by : (b : Bool) → test first ≡ b → 2 ≤ length (cond b ((first, x) ∷ rest) rest) → (2 ≤ length rest → TwoPass test) → TwoPass test
    by true is two next =
        let found = one_passes test (first + 1) xs (omega (arith, two)) in
        record { one = first; other = found.0; differ = λ same. omega (arith, same, found.1); passes = is; also = found.2 }
    by false is two next = next two

-- ---- a mixed group makes a walk offend

edge_of : (set : Set) (program hop : ℕ) → is_met (edges_of set) program hop ≡ true → HasEdge set program hop
edge_of set program hop is =
    let found = Any-from_list_any (λ (edge : Edge). (edge.left.program == program && edge.left.hop == hop) || (edge.right.program == program && edge.right.hop == hop)) (edges_of set) is in
    let edge = found.1 in
    let conflict : IsConflict set edge = All-contains (IsConflict set) (edges_of set) edge (edges_conflict set) (found.0, found.2, found.3) in
    ⊎_elim
    (λ left. by edge.left edge.right conflict left)
    (λ right. by edge.right edge.left (MayConflict-swapped set edge.left.program edge.left.hop edge.right.program edge.right.hop conflict) right)
    (or_cases (edge.left.program == program && edge.left.hop == hop) (edge.right.program == program && edge.right.hop == hop) found.4)
  where
    by : (own other : Place) → MayConflict set own.program own.hop other.program other.hop → (own.program == program && own.hop == hop) ≡ true → HasEdge set program hop
    by own other may at =
        let parts = and_parts (own.program == program) (own.hop == hop) at in
        record {
          other = other;
          conflict = subst (λ (p : ℕ). MayConflict set p hop other.program other.hop) (eqb-true own.program program parts.0)
              (subst (λ (h : ℕ). MayConflict set own.program h other.program other.hop) (eqb-true own.hop hop parts.1) may);
        }

members_of : Set → List Member
members_of set = joined_by (alone set) (edges_of set)

-- a program of a group is together with its leader
with_leader : (set : Set) (leader program : ℕ) → Contains (group_of (members_of set) leader) program → AreTogether set program leader
unfolding members_of
with_leader set leader program has =
    let members = members_of set in
    let mapped = map-contains (λ (member : Member). member.program) (filter (λ (member : Member). member.leader == leader) members) program has in
    let kept = filter-contains (λ (member : Member). member.leader == leader) members mapped.0 mapped.1 in
    let led : IsLed set mapped.0 = All-contains (IsLed set) members mapped.0 (are_led set).led kept.0 in
    subst (λ (p : ℕ). AreTogether set p leader) mapped.2 (subst (λ (l : ℕ). AreTogether set mapped.0.program l) (eqb-true mapped.0.leader leader kept.1) led.together)

mixed_walk : (set : Set) (leader : ℕ) → is_mixed set (edges_of set) leader (group_of (members_of set) leader) ≡ true → NoWalkOffends set → ⊥
mixed_walk set leader mixed none =
    let group = group_of (members_of set) leader in
    let parts = and_parts (not (begin_at_one_server set leader group)) (not (meet_at_one_hop set (edges_of set) group)) mixed in
    let abroad = one_fails (λ program. same_server (origin_of set program) (origin_of set leader)) group (not-true _ parts.0) in
    let often = one_fails (λ program. nat_lt (hops_met set (edges_of set) program) 2) group (not-true _ parts.1) in
    let two = two_pass (is_met (edges_of set) often.0) 0 (hops_of set often.0) (ltb-false _ 2 often.2) in
    let lead = with_leader set leader often.0 often.1 in
    let way = together_on set often.0 leader abroad.0 lead (together_back set abroad.0 leader (with_leader set leader abroad.0 abroad.1)) in
    let walks = λ (last : ℕ) (to : AreTogether set often.0 last) (apart : origin_of set often.0 ≢ origin_of set last).
    let walk = walk_of_mixed set often.0 last two.one two.other to apart two.differ (edge_of set often.0 two.one two.passes) (edge_of set often.0 two.other two.also) in
    none walk.0 walk.1 in
    ⊎_elim
    (λ same. walks abroad.0 way (λ is. false≢true (sym abroad.2 ∙ (Decides-same_server (origin_of set abroad.0) (origin_of set leader)).1
    (sym is ∙ (Decides-same_server (origin_of set often.0) (origin_of set leader)).0 same))))
    (λ differs. walks leader lead (λ is. false≢true (sym differs ∙ (Decides-same_server (origin_of set often.0) (origin_of set leader)).1 is)))
    (cases_Bool (same_server (origin_of set often.0) (origin_of set leader)))

-- ---- the test

has_mixed : Set → Bool
has_mixed set = list_any (λ leader. is_mixed set (edges_of set) leader (group_of (members_of set) leader)) (leaders_of (members_of set))

is_accepted : Set → Bool
is_accepted set = length (late_blocks set) == 0 || not (has_mixed set)

accepts : (set : Set) → is_accepted set ≡ true → IsAccepted set
unfolding is_accepted has_mixed members_of
accepts set is =
    ⊎_elim
    (λ none. inr (none_offends set (nil_from_length (late_blocks set) (eqb-true (length (late_blocks set)) 0 none))))
    (λ unmixed. inl (none_mixed_lem set (members_of set) (are_led set)
    (all_fail (λ leader. is_mixed set (edges_of set) leader (group_of (members_of set) leader)) (leaders_of (members_of set)) (not-true _ unmixed))))
    (or_cases (length (late_blocks set) == 0) (not (has_mixed set)) is)

accepted : (set : Set) → IsAccepted set → is_accepted set ≡ true
unfolding is_accepted has_mixed
accepted set is = ⊎_elim by_walks by_blocks is
  where
    by_walks : NoWalkOffends set → is_accepted set ≡ true
    by_walks none = or_right (length (late_blocks set) == 0) (not (has_mixed set)) (not_from_false (has_mixed set) (false_from_ne_true (has_mixed set) (λ mixed.
        let found = Any-from_list_any (λ leader. is_mixed set (edges_of set) leader (group_of (members_of set) leader)) (leaders_of (members_of set)) mixed in
        mixed_walk set found.1 found.4 none)))

    by_blocks : NoBlockWalkOffends set → is_accepted set ≡ true
    by_blocks none = or_left (length (late_blocks set) == 0) (not (has_mixed set)) (eq-eqb (length (late_blocks set)) 0 (ap length (none_listed set none)))

-- each set without some programs is told by it
pub told : (set : Set) → (accepted : Culprit → Bool) × Tells set accepted
told set = (λ culprit. is_accepted (set_without set culprit), λ culprit. (accepts (set_without set culprit), accepted (set_without set culprit)))
