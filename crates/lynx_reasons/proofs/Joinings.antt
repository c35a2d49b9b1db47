-- Programs that edges join are together, and a mixed group makes a walk offend.
use Rattle.std.proofs.Common.{◌≡◌, ◌≢◌, ◌∙◌, ℕ, zero, suc, ◌⊎◌, inl, inr, ⊎_elim, Bool, true, false, cond, not, eqb, List, [], ◌∷◌, map, length, Option, Some, None, refl, sym, ap, subst, arith}
use Rattle.std.specs.Prelude.{IfSome, ◌==◌, option_map, slice_get, slice_set}
use Rattle.std.specs.List.{list_any, range_with_len}
use Rattle.std.specs.Option.{option_map_or}
use Rattle.std.proofs.lemmas.Bool.{and_parts, eqb-true, eqb-false, not-true, or_cases}
use Rattle.std.proofs.lemmas.List.FromFn.{length-map-range_with_len}
use Rattle.std.proofs.lemmas.List.Folds.{Any-from_list_any}
use Rattle.std.proofs.lemmas.Option.{none-some, same_Some, slice_get_read, slice_get_within}
use Rattle.lynx_set.specs.Lookups.{origin_of}
use Rattle.lynx_set.specs.Set.{Set}
use Rattle.lynx_foot.proofs.ConflictLaws.{MayConflict-swapped}
use Rattle.lynx_graph.specs.declared.edges.Edge.{Edge}
use Rattle.lynx_graph.specs.declared.meeting.Place.{Place}
use Rattle.lynx_graph.specs.Tests.{same_server}
use Rattle.lynx_graph.specs.Walks.{NoWalkOffends}
use Rattle.lynx_graph.proofs.Decides.{Decides-same_server}
use Rattle.lynx_graph.proofs.Lists.{slice_get-mapped, slice_get-range}
use Rattle.lynx_reasons.specs.declared.culprit.Culprit.{Culprit}
use Rattle.lynx_reasons.specs.declared.joining.Joined.{Joined}
use Rattle.lynx_reasons.specs.Culprits.{set_without}
use Rattle.lynx_reasons.specs.inner.Joinings.{AreJoined, AreTogetherLeft, IsEdgeLeft, MeetsOne, MeetsTwice, is_abroad_of, is_mixed_by, led_by, noted, noted_at, noted_by, single}
use Rattle.lynx_reasons.specs.inner.Numbers.{number_of}
use Rattle.lynx_reasons.proofs.Renumbered.{conflict_left, origin_left, place_left}
use Rattle.lynx_reasons.proofs.Ways.{HasEdge, met, together_back, together_on, walk_of_mixed}

-- ---- each by itself

pub joined_new : (set : Set) (culprit : Culprit) (programs : List Joined) → programs ≡ map (single set) (range_with_len 0 (length set.programs)) → AreJoined set culprit programs
joined_new set culprit programs is = record {
  origins = λ program joined there. ap (λ (j : Joined). j.origin) (own program joined there);
  met = λ program joined there. subst (λ (j : Joined). IfSome j.met (MeetsOne set culprit program)) (sym (own program joined there)) tt;
  twice = λ program joined there twice. absurd (false_twice program joined there twice);
  groups = λ left right one other here there same.
      inl (sym (ap (λ (j : Joined). j.group) (own left one here)) ∙ same ∙ ap (λ (j : Joined). j.group) (own right other there));
}
  where
    own : (program : ℕ) (joined : Joined) → slice_get programs program ≡ Some joined → joined ≡ single set program
    own program joined there =
        let at : slice_get (map (single set) (range_with_len 0 (length set.programs))) program ≡ Some joined = ap (λ (all : List Joined). slice_get all program) (sym is) ∙ there in
        let found = slice_get-mapped (single set) (range_with_len 0 (length set.programs)) program joined at in
        let within = slice_get_within (map (single set) (range_with_len 0 (length set.programs))) program joined at in
        let count = length-map-range_with_len (single set) 0 (length set.programs) in
        let same : program ≡ found.0 = same_Some program found.0 (sym (slice_get-range (length set.programs) program (omega (arith, within, count))) ∙ found.1) in
        found.2 ∙ ap (single set) (sym same)

    false_twice : (program : ℕ) (joined : Joined) → slice_get programs program ≡ Some joined → joined.is_met_twice ≡ true → ⊥
    false_twice program joined there twice = by joined.is_met_twice (ap (λ (j : Joined). j.is_met_twice) (own program joined there)) twice
      where
        by : (b : Bool) → b ≡ false → b ≡ true → ⊥
        by true is other = cc is
        by false is other = cc other

-- ---- a hop is noted

-- what stands at a place after a write
set_cases : {X : Type 0} (xs : List X) (i k : ℕ) (y z : X) → slice_get (slice_set xs i y) k ≡ Some z → ((k ≡ i) × (y ≡ z)) ⊎ (slice_get xs k ≡ Some z)
set_cases [] i k y z is = absurd (none-some z is)
set_cases (x ∷ xs) zero zero y z is = inl (refl, same_Some y z is)
set_cases (x ∷ xs) zero (suc k) y z is = inr is
set_cases (x ∷ xs) (suc i) zero y z is = inr is
set_cases (x ∷ xs) (suc i) (suc k) y z is =
    ⊎_elim (λ here. inl (ap suc here.0, here.1)) (λ elsewhere. inr elsewhere) (set_cases xs i k y z is)

-- a program that is noted is as it was but for the hop
record IsNoted (set : Set) (culprit : Culprit) (program : ℕ) (joined later : Joined) : Type 0 where
  pub origin : later.origin ≡ joined.origin
  pub group : later.group ≡ joined.group
  pub met : IfSome joined.met (MeetsOne set culprit program) → IfSome later.met (MeetsOne set culprit program)
  pub twice : IfSome joined.met (MeetsOne set culprit program) → (joined.is_met_twice ≡ true → MeetsTwice set culprit program) → later.is_met_twice ≡ true → MeetsTwice set culprit program

noted_is : (set : Set) (culprit : Culprit) (program hop : ℕ) (joined : Joined) → MeetsOne set culprit program hop → (first : Option ℕ) → joined.met ≡ first →
    IsNoted set culprit program joined (noted_by first hop joined)
noted_is set culprit program hop joined meets None is = record { origin = refl; group = refl; met = λ _. meets; twice = λ _ before. before }
noted_is set culprit program hop joined meets (Some first) is = record {
  origin = refl;
  group = refl;
  met = λ before. before;
  twice = λ before twice now. ⊎_elim twice
      (λ differs. record {
        hop = first;
        other = hop;
        differ = eqb-false first hop (not-true _ differs);
        meets = subst (λ (o : Option ℕ). IfSome o (MeetsOne set culprit program)) is before;
        also = meets;
      })
      (or_cases joined.is_met_twice (not (first == hop)) now);
}

-- what became of the programs
record Noted (set : Set) (culprit : Culprit) (programs : List Joined) (program : ℕ) (later : Joined) : Type 0 where
  pub joined : Joined
  pub there : slice_get programs program ≡ Some joined
  pub is : IsNoted set culprit program joined later

noted_there : (set : Set) (culprit : Culprit) (programs : List Joined) (place : Place) → MeetsOne set culprit place.program place.hop → (program : ℕ) (later : Joined) →
    slice_get (noted_at place programs) program ≡ Some later → Noted set culprit programs program later
noted_there set culprit programs place meets program later at = by (slice_get programs place.program) refl at
  where
    unchanged : slice_get programs program ≡ Some later → Noted set culprit programs program later
    unchanged there = record {
      joined = later;
      there = there;
      is = record { origin = refl; group = refl; met = λ before. before; twice = λ _ before. before };
    }

    by : (found : Option Joined) → slice_get programs place.program ≡ found →
        slice_get (option_map_or (λ (joined : Joined). slice_set programs place.program (noted place.hop joined)) found programs) program ≡ Some later → Noted set culprit programs program later
    by None own there = unchanged there
    by (Some joined) own there =
        ⊎_elim
        (λ here. record {
          joined = joined;
          there = ap (slice_get programs) here.0 ∙ own;
          is = subst (λ (l : Joined). IsNoted set culprit program joined l) here.1
              (noted_is set culprit program place.hop joined (subst (λ (p : ℕ). MeetsOne set culprit p place.hop) (sym here.0) meets) joined.met refl);
        })
        unchanged
        (set_cases programs place.program program (noted place.hop joined) later there)

pub joined_noted : (set : Set) (culprit : Culprit) (programs : List Joined) (place : Place) → MeetsOne set culprit place.program place.hop → AreJoined set culprit programs →
    AreJoined set culprit (noted_at place programs)
joined_noted set culprit programs place meets are = record {
  origins = λ program later at. let was = noted_there set culprit programs place meets program later at in was.is.origin ∙ are.origins program was.joined was.there;
  met = λ program later at. let was = noted_there set culprit programs place meets program later at in was.is.met (are.met program was.joined was.there);
  twice = λ program later at. let was = noted_there set culprit programs place meets program later at in was.is.twice (are.met program was.joined was.there) (are.twice program was.joined was.there);
  groups = λ left right one other here there same.
      let first = noted_there set culprit programs place meets left one here in
      let second = noted_there set culprit programs place meets right other there in
      are.groups left right first.joined second.joined first.there second.there (sym first.is.group ∙ same ∙ second.is.group);
}

-- ---- two groups are made one

abbrev AreOne : Set → Culprit → ℕ → ℕ → Type 0
AreOne set culprit left right = (left ≡ right) ⊎ AreTogetherLeft set culprit left right

one_back : (set : Set) (culprit : Culprit) (left right : ℕ) → AreOne set culprit left right → AreOne set culprit right left
one_back set culprit left right one =
    ⊎_elim
    (λ same. inl (sym same))
    (λ to. inr (record {
      left_own = to.right_own;
      right_own = to.left_own;
      together = together_back (set_without set culprit) (number_of culprit left) (number_of culprit right) to.together;
    }))
    one

one_on : (set : Set) (culprit : Culprit) (left middle right : ℕ) → AreOne set culprit left middle → AreOne set culprit middle right → AreOne set culprit left right
one_on set culprit left middle right to on =
    ⊎_elim
    (λ same. subst (λ (p : ℕ). AreOne set culprit p right) (sym same) on)
    (λ (first : AreTogetherLeft set culprit left middle). ⊎_elim
    (λ same. subst (λ (p : ℕ). AreOne set culprit left p) same to)
    (λ (second : AreTogetherLeft set culprit middle right). inr (record {
      left_own = first.left_own;
      right_own = second.right_own;
      together = together_on (set_without set culprit) (number_of culprit left) (number_of culprit middle) (number_of culprit right) first.together second.together;
    }))
    on)
    to

edge_one : (set : Set) (culprit : Culprit) (edge : Edge) → IsEdgeLeft set culprit edge → AreOne set culprit edge.left.program edge.right.program
edge_one set culprit edge is = inr (record {
  left_own = is.left;
  right_own = is.right;
  together = met (set_without set culprit) (number_of culprit edge.left.program) (number_of culprit edge.right.program) (record {
    left_hop = edge.left.hop;
    right_hop = edge.right.hop;
    conflict = conflict_left set culprit edge.left.program edge.left.hop edge.right.program edge.right.hop is.left is.right is.conflict;
  });
})

in_group : (programs : List Joined) (program group : ℕ) (found : Option Joined) → slice_get programs program ≡ found → option_map (λ (joined : Joined). joined.group) found ≡ Some group →
    (joined : Joined) × (slice_get programs program ≡ Some joined) × (joined.group ≡ group)
in_group programs program group None is has = absurd (none-some group has)
in_group programs program group (Some joined) is has = (joined, is, same_Some joined.group group has)

pub joined_merged : (set : Set) (culprit : Culprit) (programs : List Joined) (edge : Edge) (group other : ℕ) → IsEdgeLeft set culprit edge →
    option_map (λ (joined : Joined). joined.group) (slice_get programs edge.left.program) ≡ Some group →
    option_map (λ (joined : Joined). joined.group) (slice_get programs edge.right.program) ≡ Some other →
    AreJoined set culprit programs → AreJoined set culprit (map (led_by group other) programs)
joined_merged set culprit programs edge group other is left_has right_has are = record {
  origins = λ program later at. let was = slice_get-mapped (led_by group other) programs program later at in
      ap (λ (j : Joined). j.origin) was.2 ∙ are.origins program was.0 was.1;
  met = λ program later at. let was = slice_get-mapped (led_by group other) programs program later at in
      subst (λ (j : Joined). IfSome j.met (MeetsOne set culprit program)) (sym was.2) (are.met program was.0 was.1);
  twice = λ program later at. let was = slice_get-mapped (led_by group other) programs program later at in
      λ twice. are.twice program was.0 was.1 (sym (ap (λ (j : Joined). j.is_met_twice) was.2) ∙ twice);
  groups = λ left right one its here there same.
      let first = slice_get-mapped (led_by group other) programs left one here in
      let second = slice_get-mapped (led_by group other) programs right its there in
      by left right first.0 second.0 first.1 second.1 (first.0.group == other) (second.0.group == other) refl refl
      (sym (ap (λ (j : Joined). j.group) first.2) ∙ same ∙ ap (λ (j : Joined). j.group) second.2);
}
  where
    a : (joined : Joined) × (slice_get programs edge.left.program ≡ Some joined) × (joined.group ≡ group)
    a = in_group programs edge.left.program group (slice_get programs edge.left.program) refl left_has

    b : (joined : Joined) × (slice_get programs edge.right.program ≡ Some joined) × (joined.group ≡ other)
    b = in_group programs edge.right.program other (slice_get programs edge.right.program) refl right_has

    -- from a program of the one group to one of the other
    across : (left right : ℕ) (one its : Joined) → slice_get programs left ≡ Some one → slice_get programs right ≡ Some its → one.group ≡ group → its.group ≡ other →
        AreOne set culprit left right
    across left right one its here there first second =
        one_on set culprit left edge.left.program right
        (are.groups left edge.left.program one a.0 here a.1 (first ∙ sym a.2))
        (one_on set culprit edge.left.program edge.right.program right (edge_one set culprit edge is)
        (are.groups edge.right.program right b.0 its b.1 there (b.2 ∙ sym second)))

    by : (left right : ℕ) (one its : Joined) → slice_get programs left ≡ Some one → slice_get programs right ≡ Some its → (first second : Bool) → eqb one.group other ≡ first → eqb its.group other ≡ second →
        cond (eqb one.group other) group one.group ≡ cond (eqb its.group other) group its.group → AreOne set culprit left right
    by left right one its here there true true first second same = are.groups left right one its here there (eqb-true one.group other first ∙ sym (eqb-true its.group other second))
    by left right one its here there true false first second same =
        one_back set culprit right left (across right left its one there here
        (sym (sym (ap (λ b. cond b group one.group) first) ∙ same ∙ ap (λ b. cond b group its.group) second)) (eqb-true one.group other first))
    by left right one its here there false true first second same =
        across left right one its here there
        (sym (ap (λ b. cond b group one.group) first) ∙ same ∙ ap (λ b. cond b group its.group) second) (eqb-true its.group other second)
    by left right one its here there false false first second same =
        are.groups left right one its here there (sym (ap (λ b. cond b group one.group) first) ∙ same ∙ ap (λ b. cond b group its.group) second)

-- ---- both ends of an edge

left_meets : (set : Set) (culprit : Culprit) (edge : Edge) → IsEdgeLeft set culprit edge → MeetsOne set culprit edge.left.program edge.left.hop
left_meets set culprit edge is = record { own = is.left; other = edge.right; its = is.right; conflict = is.conflict }

right_meets : (set : Set) (culprit : Culprit) (edge : Edge) → IsEdgeLeft set culprit edge → MeetsOne set culprit edge.right.program edge.right.hop
right_meets set culprit edge is = record {
  own = is.right;
  other = edge.left;
  its = is.left;
  conflict = MayConflict-swapped set edge.left.program edge.left.hop edge.right.program edge.right.hop is.conflict;
}

pub joined_ends : (set : Set) (culprit : Culprit) (edge : Edge) (programs next last : List Joined) → IsEdgeLeft set culprit edge → next ≡ noted_at edge.left programs →
    last ≡ noted_at edge.right next → AreJoined set culprit programs → AreJoined set culprit last
joined_ends set culprit edge programs next last is first second are =
    subst (AreJoined set culprit) (sym second) (joined_noted set culprit next edge.right (right_meets set culprit edge is)
    (subst (AreJoined set culprit) (sym first) (joined_noted set culprit programs edge.left (left_meets set culprit edge is) are)))

-- ---- a mixed group

edge_left : (set : Set) (culprit : Culprit) (program hop : ℕ) → MeetsOne set culprit program hop → HasEdge (set_without set culprit) (number_of culprit program) hop
edge_left set culprit program hop meets = record {
  other = place_left culprit meets.other;
  conflict = conflict_left set culprit program hop meets.other.program meets.other.hop meets.own meets.its meets.conflict;
}

pub mixed_offends : (set : Set) (culprit : Culprit) (programs : List Joined) → AreJoined set culprit programs → list_any (is_mixed_by programs) programs ≡ true →
    NoWalkOffends (set_without set culprit) → ⊥
mixed_offends set culprit programs are mixed none =
    let found = Any-from_list_any (is_mixed_by programs) programs mixed in
    let parts = and_parts found.1.is_met_twice (list_any (is_abroad_of found.1) programs) found.4 in
    let other = Any-from_list_any (is_abroad_of found.1) programs parts.1 in
    let abroad = and_parts (other.1.group == found.1.group) (not (same_server other.1.origin found.1.origin)) other.4 in
    let here = slice_get_read programs (length programs) found.0 found.1 refl found.2 (sym found.3) in
    let there = slice_get_read programs (length programs) other.0 other.1 refl other.2 (sym other.3) in
    by found.0 other.0 found.1 other.1 here there parts.0 (eqb-true other.1.group found.1.group abroad.0) (not-true _ abroad.1)
  where
    by : (program last : ℕ) (joined other : Joined) → slice_get programs program ≡ Some joined → slice_get programs last ≡ Some other → joined.is_met_twice ≡ true →
        other.group ≡ joined.group → same_server other.origin joined.origin ≡ false → ⊥
    by program last joined other here there twice same abroad =
        let meets = are.twice program joined here twice in
        let apart : origin_of set program ≢ origin_of set last = λ one.
        cc (abroad, (Decides-same_server other.origin joined.origin).1 (are.origins last other there ∙ sym one ∙ sym (are.origins program joined here))) in
        ⊎_elim
        (λ is. apart (ap (origin_of set) is))
        (λ (is : AreTogetherLeft set culprit program last).
        let walk = walk_of_mixed (set_without set culprit) (number_of culprit program) (number_of culprit last) meets.hop meets.other is.together
        (λ one. apart (sym (origin_left set culprit program is.left_own) ∙ one ∙ origin_left set culprit last is.right_own))
        meets.differ (edge_left set culprit program meets.hop meets.meets) (edge_left set culprit program meets.other meets.also) in
        none walk.0 walk.1)
        (are.groups program last joined other here there (sym same))
