-- Joining groups, edge by edge, leaves each program with the least of those that are together with it.
use Rattle.std.proofs.Common.{◌≡◌, ℕ, ◌<◌, ◌≤◌, max, min, Bool, true, false, cond, eqb, List, [], ◌∷◌, ◌++◌, map, length, get_or, Some, None, zero, suc, refl, sym, ap, subst, ◌∙◌, inl, inr, ⊎_elim, arith}
use Rattle.std.specs.Prelude.{◌⊎◌, All, Contains, Option, option_and_then, option_map, slice_get, slice_index_or}
use Rattle.std.specs.List.{range_with_len}
use Rattle.std.specs.Option.{option_map_or}
use Rattle.std.proofs.lemmas.Bool.{cases_lt, eqb-true, eqb-false}
use Rattle.std.proofs.lemmas.List.{length-map}
use Rattle.std.proofs.lemmas.List.FromFn.{length-range_with_len}
use Rattle.std.proofs.lemmas.Option.{none-some, same_Some, slice_get-map, slice_get-get_or, slice_get_within}
use Rattle.lynx_set.specs.declared.program.Program.{Program}
use Rattle.lynx_set.specs.Set.{Set}
use Rattle.lynx_set.specs.Lookups.{hop_at}
use Rattle.lynx_set.specs.declared.program.Hop.{Hop}
use Rattle.lynx_foot.specs.Conflicts.{MayConflict}
use Rattle.lynx_foot.proofs.ConflictLaws.{MayConflict-swapped}
use Rattle.lynx_graph.specs.declared.meeting.Place.{Place}
use Rattle.lynx_graph.specs.Nodes.{places_of}
use Rattle.lynx_graph.proofs.Lists.{slice_get-mapped, slice_get-range}
use Rattle.lynx_graph.proofs.Places.{hop_left, hop_right, place_of}
use Rattle.lynx_graph.specs.declared.edges.Edge.{Edge}
use Rattle.lynx_graph.specs.Edges.{IsConflict, edges_of}
use Rattle.lynx_graph.proofs.Conflicts.{conflicts_have_edges, edges_conflict}
use Rattle.lynx_graph.specs.declared.members.Member.{Member}
use Rattle.lynx_graph.specs.Together.{AreLed, AreTogether, IsLed, LeadsTo, Meet}
use Rattle.lynx_graph.specs.Groups.{leader_of}
use Rattle.lynx_graph.specs.inner.Joining.{alone, by_itself, joined, joined_by, led, led_by_lesser, new_leader}

-- ---- being together

Meet-swapped : (set : Set) (left right : ℕ) → Meet set left right → Meet set right left
Meet-swapped set left right meet = record {
  left_hop = meet.right_hop;
  right_hop = meet.left_hop;
  conflict = MayConflict-swapped set left meet.left_hop right meet.right_hop meet.conflict;
}

leads_on : (set : Set) (left : ℕ) (way : List ℕ) (mid : ℕ) (more : List ℕ) (right : ℕ) → LeadsTo set left way mid → LeadsTo set mid more right → LeadsTo set left (way ++ more) right
leads_on set left [] mid more right same on = subst (λ (p : ℕ). LeadsTo set p more right) (sym same) on
leads_on set left (next ∷ way) mid more right leads on = (leads.0, leads_on set next way mid more right leads.1 on)

one_then : (set : Set) (left mid right : ℕ) → AreTogether set left mid → AreTogether set mid right → AreTogether set left right
one_then set left mid right first second = (first.0 ++ second.0, leads_on set left first.0 mid second.0 right first.1 second.1)

meet_together : (set : Set) (left right : ℕ) → Meet set left right → AreTogether set left right
meet_together set left right meet = (right ∷ [], (meet, refl))

leads_back : (set : Set) (left : ℕ) (way : List ℕ) (right : ℕ) → LeadsTo set left way right → AreTogether set right left
leads_back set left [] right same = ([], sym same)
leads_back set left (next ∷ way) right leads =
    one_then set right next left (leads_back set next way right leads.1) (meet_together set next left (Meet-swapped set left next leads.0))

back : (set : Set) (left right : ℕ) → AreTogether set left right → AreTogether set right left
back set left right together = leads_back set left together.0 right together.1

-- ---- what holds of members all along

pub record Fair (set : Set) (members : List Member) : Type 0 where
  pub all : map (λ member. member.program) members ≡ range_with_len 0 (length set.programs)
  pub together : (k : ℕ) (member : Member) → slice_get members k ≡ Some member → AreTogether set member.program member.leader
  pub below : (k : ℕ) (member : Member) → slice_get members k ≡ Some member → member.leader ≤ member.program

-- the two programs have one leader
pub record Done (members : List Member) (left right : ℕ) : Type 0 where
  pub left_member : Member
  pub right_member : Member
  pub left_there : slice_get members left ≡ Some left_member
  pub right_there : slice_get members right ≡ Some right_member
  pub same : left_member.leader ≡ right_member.leader

-- each program of the set is a member
member_at : (set : Set) (members : List Member) → Fair set members → (program : ℕ) → program < length set.programs → (member : Member) × (slice_get members program ≡ Some member)
member_at set members fair program within =
    let at : slice_get (map (λ (member : Member). member.program) members) program ≡ Some program =
    ap (λ programs. slice_get programs program) fair.all ∙ slice_get-range (length set.programs) program within in
    let found = slice_get-mapped (λ (member : Member). member.program) members program program at in
    (found.0, found.1)

-- and stands at its number
numbered : (set : Set) (members : List Member) → Fair set members → (k : ℕ) (member : Member) → slice_get members k ≡ Some member → member.program ≡ k
numbered set members fair k member there =
    let program_of : Member → ℕ = λ one. one.program in
    let within : k < length set.programs =
    omega (arith, slice_get_within members k member there, length-map members program_of, ap length fair.all, length-range_with_len 0 (length set.programs)) in
    sym (same_Some k member.program (sym (slice_get-range (length set.programs) k within) ∙ ap (λ programs. slice_get programs k) (sym fair.all)
    ∙ slice_get-map program_of members k ∙ ap (option_map program_of) there))

-- ---- a new leader

new_leader_cases : (old new leader : ℕ) → ((leader ≡ old) × (new_leader old new leader ≡ new)) ⊎ ((leader ≡ old → ⊥) × (new_leader old new leader ≡ leader))
new_leader_cases old new leader = by_test (eqb leader old) refl
  where
    by_test : (b : Bool) → eqb leader old ≡ b → ((leader ≡ old) × (cond b new leader ≡ new)) ⊎ ((leader ≡ old → ⊥) × (cond b new leader ≡ leader))
    by_test true same = inl (eqb-true leader old same, refl)
    by_test false apart = inr (eqb-false leader old apart, refl)

lesser_leads_left : (left right : ℕ) → new_leader (max left right) (min left right) left ≡ min left right
lesser_leads_left left right = by (new_leader_cases (max left right) (min left right) left)
  where
    by : ((left ≡ max left right) × (new_leader (max left right) (min left right) left ≡ min left right))
        ⊎ ((left ≡ max left right → ⊥) × (new_leader (max left right) (min left right) left ≡ left)) → new_leader (max left right) (min left right) left ≡ min left right
    by (inl it) = it.1
    by (inr it) = let apart = it.0 in let least : left ≡ min left right = omega (arith, apart) in it.1 ∙ least

lesser_leads_right : (left right : ℕ) → new_leader (max left right) (min left right) right ≡ min left right
lesser_leads_right left right = by (new_leader_cases (max left right) (min left right) right)
  where
    by : ((right ≡ max left right) × (new_leader (max left right) (min left right) right ≡ min left right))
        ⊎ ((right ≡ max left right → ⊥) × (new_leader (max left right) (min left right) right ≡ right)) → new_leader (max left right) (min left right) right ≡ min left right
    by (inl it) = it.1
    by (inr it) = let apart = it.0 in let least : right ≡ min left right = omega (arith, apart) in it.1 ∙ least

after_led : (members : List Member) (old new k : ℕ) (member : Member) → slice_get members k ≡ Some member → slice_get (map (led old new) members) k ≡ Some (led old new member)
after_led members old new k member there = slice_get-map (led old new) members k ∙ ap (option_map (led old new)) there

leader_is : (members : List Member) (k : ℕ) (member : Member) → slice_get members k ≡ Some member → leader_of members k ≡ member.leader
leader_is members k member there = ap (λ found. option_map_or (λ (one : Member). one.leader) found k) there

Done-swapped : (members : List Member) (left right : ℕ) → Done members left right → Done members right left
Done-swapped members left right done = record {
  left_member = done.right_member;
  right_member = done.left_member;
  left_there = done.right_there;
  right_there = done.left_there;
  same = sym done.same;
}

Done-led : (members : List Member) (old new left right : ℕ) → Done members left right → Done (map (led old new) members) left right
Done-led members old new left right done = record {
  left_member = led old new done.left_member;
  right_member = led old new done.right_member;
  left_there = after_led members old new left done.left_member done.left_there;
  right_there = after_led members old new right done.right_member done.right_there;
  same = ap (new_leader old new) done.same;
}

Done-joined : (members : List Member) (left right : ℕ) (left_member right_member : Member) → slice_get members left ≡ Some left_member → slice_get members right ≡ Some right_member →
    Done (joined left right members) left right
Done-joined members left right left_member right_member left_there right_there =
    let a = leader_of members left in
    let b = leader_of members right in
    record {
      left_member = led (max a b) (min a b) left_member;
      right_member = led (max a b) (min a b) right_member;
      left_there = after_led members (max a b) (min a b) left left_member left_there;
      right_there = after_led members (max a b) (min a b) right right_member right_there;
      same = ap (new_leader (max a b) (min a b)) (sym (leader_is members left left_member left_there)) ∙ lesser_leads_left a b
          ∙ sym (lesser_leads_right a b) ∙ ap (new_leader (max a b) (min a b)) (leader_is members right right_member right_there);
    }

-- ---- an edge more

programs_kept : (old new : ℕ) (members : List Member) → map (λ (member : Member). member.program) (map (led old new) members) ≡ map (λ (member : Member). member.program) members
programs_kept old new [] = refl
programs_kept old new (member ∷ members) = ap (λ programs. member.program ∷ programs) (programs_kept old new members)

-- where the old leader is together with the new one, which is less, all stays fair
Fair-led : (set : Set) (members : List Member) (old new : ℕ) → Fair set members → new ≤ old → AreTogether set old new → Fair set (map (led old new) members)
Fair-led set members old new fair less old_new = record {
  all = programs_kept old new members ∙ fair.all;
  together = λ k member there.
      let found = slice_get-mapped (led old new) members k member there in
      subst (λ (one : Member). AreTogether set one.program one.leader) (sym found.2)
      (together_by found.0 (fair.together k found.0 found.1) (new_leader_cases old new found.0.leader));
  below = λ k member there.
      let found = slice_get-mapped (led old new) members k member there in
      subst (λ (one : Member). one.leader ≤ one.program) (sym found.2)
      (below_by found.0 (fair.below k found.0 found.1) (new_leader_cases old new found.0.leader));
}
  where
    together_by : (member : Member) → AreTogether set member.program member.leader →
        ((member.leader ≡ old) × (new_leader old new member.leader ≡ new)) ⊎ ((member.leader ≡ old → ⊥) × (new_leader old new member.leader ≡ member.leader)) →
        AreTogether set member.program (new_leader old new member.leader)
    together_by member together (inl it) =
        subst (AreTogether set member.program) (sym it.1) (one_then set member.program old new (subst (AreTogether set member.program) it.0 together) old_new)
    together_by member together (inr it) = subst (AreTogether set member.program) (sym it.1) together

    below_by : (member : Member) → member.leader ≤ member.program →
        ((member.leader ≡ old) × (new_leader old new member.leader ≡ new)) ⊎ ((member.leader ≡ old → ⊥) × (new_leader old new member.leader ≡ member.leader)) →
        new_leader old new member.leader ≤ member.program
    below_by member below (inl it) = let was = it.0 in let is = it.1 in omega (arith, was, is)
    below_by member below (inr it) = let is = it.1 in omega (arith, is)

greater_lesser : (set : Set) (left right : ℕ) → AreTogether set left right → AreTogether set (max left right) (min left right)
greater_lesser set left right together = ⊎_elim less more (cases_lt left right)
  where
    less : left < right → AreTogether set (max left right) (min left right)
    less lt =
        let greater : right ≡ max left right = omega arith in
        let lesser : left ≡ min left right = omega arith in
        subst (λ (n : ℕ). AreTogether set n (min left right)) greater (subst (AreTogether set right) lesser (back set left right together))

    more : right ≤ left → AreTogether set (max left right) (min left right)
    more le =
        let greater : left ≡ max left right = omega arith in
        let lesser : right ≡ min left right = omega arith in
        subst (λ (n : ℕ). AreTogether set n (min left right)) greater (subst (AreTogether set left) lesser together)

leaders_together : (set : Set) (members : List Member) → Fair set members → (left right : ℕ) (left_member right_member : Member) →
    slice_get members left ≡ Some left_member → slice_get members right ≡ Some right_member → Meet set left right →
    AreTogether set (leader_of members left) (leader_of members right)
leaders_together set members fair left right left_member right_member left_there right_there meet =
    let to_left : AreTogether set left left_member.leader =
    subst (λ (p : ℕ). AreTogether set p left_member.leader) (numbered set members fair left left_member left_there) (fair.together left left_member left_there) in
    let to_right : AreTogether set right right_member.leader =
    subst (λ (p : ℕ). AreTogether set p right_member.leader) (numbered set members fair right right_member right_there) (fair.together right right_member right_there) in
    let all : AreTogether set left_member.leader right_member.leader =
    one_then set left_member.leader left right_member.leader (back set left left_member.leader to_left)
    (one_then set left right right_member.leader (meet_together set left right meet) to_right) in
    subst (λ (p : ℕ). AreTogether set p (leader_of members right)) (sym (leader_is members left left_member left_there))
    (subst (AreTogether set left_member.leader) (sym (leader_is members right right_member right_there)) all)

Fair-joined : (set : Set) (members : List Member) → Fair set members → (left right : ℕ) (left_member right_member : Member) →
    slice_get members left ≡ Some left_member → slice_get members right ≡ Some right_member → Meet set left right → Fair set (joined left right members)
Fair-joined set members fair left right left_member right_member left_there right_there meet =
    let a = leader_of members left in
    let b = leader_of members right in
    Fair-led set members (max a b) (min a b) fair (omega arith)
    (greater_lesser set a b (leaders_together set members fair left right left_member right_member left_there right_there meet))

-- ---- all edges

program_within : (set : Set) (program hop : ℕ) (found : Hop) → hop_at set program hop ≡ Some found → program < length set.programs
program_within set program hop found is = by_program (slice_get set.programs program) refl is
  where
    by_program : (known : Option (List ℕ × Program)) → slice_get set.programs program ≡ known →
        option_and_then (λ of. slice_get of.hops hop) (option_map (λ named. named.1) known) ≡ Some found → program < length set.programs
    by_program None at none = absurd (none-some found none)
    by_program (Some named) at there = slice_get_within set.programs program named at

-- what edges leave of members
pub record After (set : Set) (members : List Member) (edges : List Edge) (after : List Member) : Type 0 where
  pub fair : Fair set after
  pub kept : (left right : ℕ) → Done members left right → Done after left right
  pub done : (edge : Edge) → Contains edges edge → Done after edge.left.program edge.right.program

after_edges : (set : Set) (edges : List Edge) (members : List Member) → Fair set members → All (IsConflict set) edges → After set members edges (joined_by members edges)
after_edges set [] members fair conflicts = record { fair = fair; kept = λ left right done. done; done = λ edge has. absurd (none has.1) }
  where
    none : {k : ℕ} → k < length {A = Edge} [] → ⊥
    none below = omega (arith, below)
after_edges set (edge ∷ edges) members fair conflicts =
    let conflict : IsConflict set edge = conflicts 0 edge (omega arith) in
    let left = edge.left.program in
    let right = edge.right.program in
    let left_hop = hop_left set edge.left edge.right conflict in
    let right_hop = hop_right set edge.left edge.right conflict in
    let left_member = member_at set members fair left (program_within set left edge.left.hop left_hop.0 left_hop.1) in
    let right_member = member_at set members fair right (program_within set right edge.right.hop right_hop.0 right_hop.1) in
    let meet : Meet set left right = record { left_hop = edge.left.hop; right_hop = edge.right.hop; conflict = conflict } in
    let rest = after_edges set edges (joined left right members)
    (Fair-joined set members fair left right left_member.0 right_member.0 left_member.1 right_member.1 meet)
    (λ k d below. conflicts (suc k) d (omega arith)) in
    record {
      fair = rest.fair;
      kept = λ l r done. rest.kept l r (Done-led members (max (leader_of members left) (leader_of members right)) (min (leader_of members left) (leader_of members right)) l r done);
      done = λ other has. has_done other has.0 has.1 has.2 (rest.kept left right (Done-joined members left right left_member.0 right_member.0 left_member.1 right_member.1)) rest.done;
    }
  where
    has_done : {after : List Member} (other : Edge) (k : ℕ) → k < length (edge ∷ edges) → slice_index_or (edge ∷ edges) k other ≡ other → Done after edge.left.program edge.right.program →
        ((one : Edge) → Contains edges one → Done after one.left.program one.right.program) → Done after other.left.program other.right.program
    has_done {after} other zero below is first later = subst (λ (one : Edge). Done after one.left.program one.right.program) is first
    has_done other (suc k) below is first later = later other (k, omega (arith, below), is)

-- ---- by way of others

programs_alone : (numbers : List ℕ) → map (λ (member : Member). member.program) (map by_itself numbers) ≡ numbers
programs_alone [] = refl
programs_alone (number ∷ numbers) = ap (λ rest. number ∷ rest) (programs_alone numbers)

Fair-alone : (set : Set) → Fair set (alone set)
Fair-alone set = record {
  all = programs_alone (range_with_len 0 (length set.programs));
  together = λ k member there.
      let found = slice_get-mapped by_itself (range_with_len 0 (length set.programs)) k member there in
      subst (λ (one : Member). AreTogether set one.program one.leader) (sym found.2) ([], refl);
  below = λ k member there.
      let found = slice_get-mapped by_itself (range_with_len 0 (length set.programs)) k member there in
      subst (λ (one : Member). one.leader ≤ one.program) (sym found.2) (omega arith);
}

-- programs that meet have one leader, where all edges are done
meets_done : (set : Set) (members : List Member) → ((edge : Edge) → Contains (edges_of set) edge → Done members edge.left.program edge.right.program) →
    (left right : ℕ) → Meet set left right → Done members left right
meets_done set members done left right meet = ⊎_elim before after (cases_lt from.0 to.0)
  where
    left_place : Place
    left_place = record { program = left; hop = meet.left_hop }

    right_place : Place
    right_place = record { program = right; hop = meet.right_hop }

    from : (n : ℕ) × (slice_get (places_of set) n ≡ Some left_place)
    from = let hop = hop_left set left_place right_place meet.conflict in place_of set left_place hop.0 hop.1

    to : (n : ℕ) × (slice_get (places_of set) n ≡ Some right_place)
    to = let hop = hop_right set left_place right_place meet.conflict in place_of set right_place hop.0 hop.1

    before : from.0 < to.0 → Done members left right
    before lt =
        let edge : Edge = record { left = left_place; right = right_place } in
        done edge (conflicts_have_edges set from.0 to.0 edge (omega (arith, lt)) from.1 to.1 meet.conflict)

    after : to.0 ≤ from.0 → Done members left right
    after le =
        let edge : Edge = record { left = right_place; right = left_place } in
        Done-swapped members right left
        (done edge (conflicts_have_edges set to.0 from.0 edge le to.1 from.1 (MayConflict-swapped set left meet.left_hop right meet.right_hop meet.conflict)))

-- so have those that meet by way of others
same_leader : (set : Set) (members : List Member) → ((left right : ℕ) → Meet set left right → Done members left right) →
    (program : ℕ) (way : List ℕ) (last : ℕ) (member : Member) → slice_get members program ≡ Some member → LeadsTo set program way last →
    (other : Member) × (slice_get members last ≡ Some other) × (other.leader ≡ member.leader)
same_leader set members meets program [] last member there same = (member, subst (λ (p : ℕ). slice_get members p ≡ Some member) same there, refl)
same_leader set members meets program (next ∷ way) last member there leads =
    let met = meets program next leads.0 in
    let is : met.left_member ≡ member = same_Some met.left_member member (sym met.left_there ∙ there) in
    let found = same_leader set members meets next way last met.right_member met.right_there leads.1 in
    (found.0, found.1, found.2 ∙ sym met.same ∙ ap (λ (one : Member). one.leader) is)

pub are_led : (set : Set) → AreLed set (joined_by (alone set) (edges_of set))
are_led set = record { all = after.fair.all; led = λ k d within. is_led k (get_or members k d) (slice_get-get_or members k d within) }
  where
    members : List Member
    members = joined_by (alone set) (edges_of set)

    after : After set (alone set) (edges_of set) members
    after = after_edges set (edges_of set) (alone set) (Fair-alone set) (edges_conflict set)

    is_led : (k : ℕ) (member : Member) → slice_get members k ≡ Some member → IsLed set member
    is_led k member there = record {
      together = after.fair.together k member there;
      least = λ other together.
          let program_at : slice_get members member.program ≡ Some member =
          subst (λ (n : ℕ). slice_get members n ≡ Some member) (sym (numbered set members after.fair k member there)) there in
          let found = same_leader set members (meets_done set members after.done) member.program together.0 other member program_at together.1 in
          let is = numbered set members after.fair other found.0 found.1 in
          let below = after.fair.below other found.0 found.1 in
          let same = found.2 in
          omega (arith, is, below, same);
    }
