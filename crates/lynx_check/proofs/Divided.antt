-- Where no part of the graph offends, no closed walk does.
use Rattle.std.proofs.Common.{◌≡◌, ◌≢◌, ℕ, zero, suc, ◌+◌, Bool, true, false, not, List, [], ◌∷◌, length, Option, Some, None, refl, sym, ap, subst, ◌∙◌, arith}
use Rattle.std.specs.Prelude.{◌==◌, ◌&&◌, Any, slice_get}
use Rattle.std.specs.List.{enumerate_from, list_any}
use Rattle.std.specs.Option.{option_map_or}
use Rattle.std.proofs.lemmas.Bool.{and_from, eq-eqb, eqb-true, false≢true, not_from_false, or_left, or_right}
use Rattle.std.proofs.lemmas.Option.{none-some, same_Some, slice_get_read}
use Rattle.lynx_set.specs.Set.{Set}
use Rattle.lynx_set.specs.Lookups.{origin_of}
use Rattle.lynx_foot.proofs.ConflictLaws.{MayConflict-swapped}
use Rattle.lynx_graph.specs.declared.meeting.Place.{Place}
use Rattle.lynx_graph.specs.declared.nodes.Exit.{Exit}
use Rattle.lynx_graph.specs.declared.nodes.Node.{Node}
use Rattle.lynx_graph.specs.declared.visit.Visit.{Visit}
use Rattle.lynx_graph.specs.Nodes.{places_of, nodes_of}
use Rattle.lynx_graph.specs.Tests.{joins, same_server}
use Rattle.lynx_graph.specs.Walks.{JoinsAround, NoWalkOffends}
use Rattle.lynx_check.specs.inner.Parts.{are_one, has_abroad, has_neighbours, has_other_exit, is_met, is_same_part, is_split, meets_other_part, part_offends, some_part_offends}
use Rattle.lynx_graph.specs.inner.Tests.{entrance_of, exit_of}
use Rattle.lynx_graph.proofs.Decides.{Decides-joins, Decides-same_server}
use Rattle.lynx_graph.proofs.Lists.{enumerated-any, found-any}
use Rattle.lynx_graph.proofs.Places.{Conflict, hop_left, hop_right, node_at, place_of}
use Rattle.lynx_check.proofs.Sound.{at_place}

-- ---- tests

-- what passes nowhere fails
pub fails : (b : Bool) → (b ≡ true → ⊥) → b ≡ false
fails true never = absurd (never refl)
fails false never = refl

-- a list of which an element passes isn't empty
some_there : {X : Type 0} (asked : X → Bool) (xs : List X) → list_any asked xs ≡ true → not (length xs == 0) ≡ true
some_there asked [] passes = absurd (false≢true passes)
some_there asked (x ∷ xs) passes = not_from_false (length (x ∷ xs) == 0) (fails (length (x ∷ xs) == 0) (λ same. let none = eqb-true (length (x ∷ xs)) 0 same in absurd (omega arith)))

-- ---- what no part does

-- the parts offend nowhere
abbrev AreParts : Set → List ℕ → Type 0
AreParts set parts = some_part_offends (nodes_of set) parts ≡ false

offends_nowhere : (set : Set) (parts : List ℕ) (n : ℕ) (place : Place) → AreParts set parts → slice_get (places_of set) n ≡ Some place →
    part_offends (nodes_of set) parts n (at_place set place) ≡ true → ⊥
offends_nowhere set parts n place are there offends =
    false≢true (sym are ∙ enumerated-any (λ (numbered : ℕ × Node). part_offends (nodes_of set) parts numbered.0 numbered.1) 0 (nodes_of set) n (at_place set place) (node_at set n place there)
    (let same : 0 + n ≡ n = omega arith in ap (λ (m : ℕ). part_offends (nodes_of set) parts m (at_place set place)) same ∙ offends))

-- a test that doesn't fail the other way passes
passes_unless : (b : Bool) → (not b ≡ true → ⊥) → b ≡ true
passes_unless true never = refl
passes_unless false never = absurd (never refl)

-- hops that may conflict are in one part
joined_within : (set : Set) (parts : List ℕ) (n m : ℕ) (place other : Place) → AreParts set parts → slice_get (places_of set) n ≡ Some place → slice_get (places_of set) m ≡ Some other →
    Conflict set place other → is_same_part parts n m ≡ true
joined_within set parts n m place other are there at conflict = passes_unless (is_same_part parts n m) (λ apart.
    offends_nowhere set parts n place are there (or_left _ _
    (found-any (joins set place) (λ numbered. numbered.0) 0 (places_of set) m other at ((Decides-joins set place other).1 conflict) (λ next. not (is_same_part parts n next))
    (let same : 0 + m ≡ m = omega arith in ap (λ (k : ℕ). not (is_same_part parts n k)) same ∙ apart))))

-- hops of one program are
siblings_within : (set : Set) (parts : List ℕ) (n m : ℕ) (place other : Place) → AreParts set parts → slice_get (places_of set) n ≡ Some place → slice_get (places_of set) m ≡ Some other →
    other.program ≡ place.program → is_same_part parts n m ≡ true
siblings_within set parts n m place other are there at same_program = passes_unless (is_same_part parts n m) (λ apart.
    offends_nowhere set parts n place are there (or_right (meets_other_part parts n (at_place set place)) _ (or_left (is_split parts n (at_place set place)) _
    (found-any {X = Exit} (λ other. other.program == place.program) (λ numbered. record { hop = numbered.1.hop; node = numbered.0 }) 0 (places_of set) m other at
    (eq-eqb other.program place.program same_program) (λ exit. not (is_same_part parts n exit.node))
    (let same : 0 + m ≡ m = omega arith in ap (λ (k : ℕ). not (is_same_part parts n k)) same ∙ apart)))))

-- a hop with which one may conflict has neighbours
met : (set : Set) (place other : Place) → Conflict set place other → is_met (at_place set place) ≡ true
met set place other conflict =
    let hop = hop_right set place other conflict in
    let at = place_of set other hop.0 hop.1 in
    some_there (λ _. true) (at_place set place).neighbours
    (found-any (joins set place) (λ numbered. numbered.0) 0 (places_of set) at.0 other at.1 ((Decides-joins set place other).1 conflict) (λ _. true) refl)

-- ---- places in a part

record InPart (set : Set) (parts : List ℕ) (part : ℕ) (place : Place) : Type 0 where
  pub at : ℕ
  pub there : slice_get (places_of set) at ≡ Some place
  pub is : slice_get parts at ≡ Some part

-- one part
same_part : (left right : Option ℕ) (part : ℕ) → are_one left right ≡ true → left ≡ Some part → right ≡ Some part
same_part None right part one is = absurd (false≢true one)
same_part (Some own) None part one is = absurd (false≢true one)
same_part (Some own) (Some other) part one is = ap Some (sym (eqb-true own other one)) ∙ is

-- some part
its_part : (own : Option ℕ) → are_one own own ≡ true → (part : ℕ) × (own ≡ Some part)
its_part None one = absurd (false≢true one)
its_part (Some part) one = (part, refl)

joined_in : (set : Set) (parts : List ℕ) (part : ℕ) (place other : Place) → AreParts set parts → InPart set parts part place → Conflict set place other → InPart set parts part other
joined_in set parts part place other are within conflict =
    let hop = hop_right set place other conflict in
    let at = place_of set other hop.0 hop.1 in
    record { at = at.0; there = at.1; is = same_part _ _ part (joined_within set parts within.at at.0 place other are within.there at.1 conflict) within.is }

sibling_in : (set : Set) (parts : List ℕ) (part : ℕ) (place other next : Place) → AreParts set parts → InPart set parts part place → other.program ≡ place.program → Conflict set other next → InPart set parts part other
sibling_in set parts part place other next are within same conflict =
    let hop = hop_left set other next conflict in
    let at = place_of set other hop.0 hop.1 in
    record { at = at.0; there = at.1; is = same_part _ _ part (siblings_within set parts within.at at.0 place other are within.there at.1 same) within.is }

-- ---- a walk stays in a part

record Stays (set : Set) (parts : List ℕ) (part : ℕ) (visit : Visit) : Type 0 where
  pub entered : InPart set parts part (entrance_of visit)
  pub left : InPart set parts part (exit_of visit)
  pub enters : is_met (at_place set (entrance_of visit)) ≡ true
  pub leaves : is_met (at_place set (exit_of visit)) ≡ true

-- a visit of a closed walk that is entered in the part
stays : (set : Set) (parts : List ℕ) (part : ℕ) (visit : Visit) (from next : Place) → AreParts set parts → InPart set parts part (entrance_of visit) → Conflict set from (entrance_of visit) →
    Conflict set (exit_of visit) next → Stays set parts part visit
stays set parts part visit from next are within came goes = record {
  entered = within;
  left = sibling_in set parts part (entrance_of visit) (exit_of visit) next are within refl goes;
  enters = met set (entrance_of visit) from (MayConflict-swapped set from.program from.hop visit.program visit.entered came);
  leaves = met set (exit_of visit) next goes;
}

-- each visit of the walk does
abbrev AllStay : Set → List ℕ → ℕ → List Visit → Type 0
AllStay set parts part visits = (k : ℕ) (visit : Visit) → slice_get visits k ≡ Some visit → Stays set parts part visit

all_more : (set : Set) (parts : List ℕ) (part : ℕ) (first : Visit) (rest : List Visit) → Stays set parts part first → AllStay set parts part rest → AllStay set parts part (first ∷ rest)
all_more set parts part first rest here later zero visit there = subst (Stays set parts part) (same_Some first visit there) here
all_more set parts part first rest here later (suc k) visit there = later k visit there

stay_around : (set : Set) (parts : List ℕ) (part : ℕ) (first visit : Visit) (rest : List Visit) (from : Place) → AreParts set parts → JoinsAround set first visit rest →
    InPart set parts part (entrance_of visit) → Conflict set from (entrance_of visit) → AllStay set parts part (visit ∷ rest)
stay_around set parts part first visit [] from are around within came =
    all_more set parts part visit [] (stays set parts part visit from (entrance_of first) are within came around) (λ k other there. absurd (none-some other there))
stay_around set parts part first visit (next ∷ rest) from are around within came =
    let here = stays set parts part visit from (entrance_of next) are within came around.0 in
    all_more set parts part visit (next ∷ rest) here
    (stay_around set parts part first next rest (exit_of visit) are around.1 (joined_in set parts part (exit_of visit) (entrance_of next) are here.left around.0) around.0)

-- the hop from which the first visit is entered
came_from : (set : Set) (first visit : Visit) (rest : List Visit) → JoinsAround set first visit rest → (from : Place) × Conflict set from (entrance_of first)
came_from set first visit [] around = (exit_of visit, around)
came_from set first visit (next ∷ rest) around = came_from set first next rest around.1

-- ---- no walk offends

-- a visit that crosses, and one of another origin, in one part
offends_there : (set : Set) (parts : List ℕ) (part : ℕ) (visit other : Visit) → AreParts set parts → Stays set parts part visit → Stays set parts part other →
    visit.entered ≢ visit.left → origin_of set other.program ≢ origin_of set visit.program → ⊥
offends_there set parts part visit other are crossing abroad crosses differ =
    offends_nowhere set parts n place are crossing.entered.there
    (or_right (meets_other_part parts n node) _ (or_right (is_split parts n node) _ (and_from _ _ crossing.enters (and_from (has_other_exit (nodes_of set) node) _ other_exit from_abroad))))
  where
    n : ℕ
    n = crossing.entered.at

    place : Place
    place = entrance_of visit

    node : Node
    node = at_place set place

    crosses_is : not (visit.left == visit.entered) ≡ true
    crosses_is = not_from_false _ (fails (visit.left == visit.entered) (λ same. crosses (sym (eqb-true visit.left visit.entered same))))

    other_exit : has_other_exit (nodes_of set) node ≡ true
    other_exit =
        let m = crossing.left.at in
        let same : 0 + m ≡ m = omega arith in
        found-any {X = Exit} (λ other. other.program == visit.program) (λ numbered. record { hop = numbered.1.hop; node = numbered.0 }) 0 (places_of set) m (exit_of visit) crossing.left.there
        (eq-eqb visit.program visit.program refl) (λ exit. not (exit.hop == visit.entered) && has_neighbours (nodes_of set) exit.node)
        (and_from _ _ crosses_is (ap (λ (k : ℕ). has_neighbours (nodes_of set) k) same
        ∙ ap (λ (o : Option Node). option_map_or (λ node. is_met node) o false) (node_at set m (exit_of visit) crossing.left.there) ∙ crossing.leaves))

    differ_is : not (same_server (origin_of set other.program) (origin_of set visit.program)) ≡ true
    differ_is = not_from_false _ (fails _ (λ same. differ ((Decides-same_server (origin_of set other.program) (origin_of set visit.program)).0 same)))

    together : (left right : Option ℕ) → left ≡ Some part → right ≡ Some part → are_one left right ≡ true
    together left right own there = ap (λ (o : Option ℕ). are_one o right) own ∙ ap (are_one (Some part)) there ∙ eq-eqb part part refl

    from_abroad : has_abroad (nodes_of set) parts n node ≡ true
    from_abroad =
        let m = abroad.entered.at in
        let same : 0 + m ≡ m = omega arith in
        enumerated-any (λ (numbered : ℕ × Node). not (same_server numbered.1.origin node.origin) && is_same_part parts n numbered.0) 0 (nodes_of set) m (at_place set (entrance_of other))
        (node_at set m (entrance_of other) abroad.entered.there)
        (and_from _ _ differ_is (ap (is_same_part parts n) same ∙ together _ _ crossing.entered.is abroad.entered.is))

stays_at : (set : Set) (parts : List ℕ) (part : ℕ) (visits : List Visit) (P : Visit → Type 0) → AllStay set parts part visits → (found : Any P visits) → Stays set parts part found.1
stays_at set parts part visits P all found = all found.0 found.1 (slice_get_read visits (length visits) found.0 found.1 refl found.2 (sym found.3))

-- no closed walk offends where no part does
pub no_walk_from_parts : (set : Set) (parts : List ℕ) → AreParts set parts → NoWalkOffends set
no_walk_from_parts set parts are [] offending = offending.0
no_walk_from_parts set parts are (only ∷ []) offending = offending.0
no_walk_from_parts set parts are (first ∷ second ∷ rest) offending =
    let walk = first ∷ second ∷ rest in
    let came = came_from set first first (second ∷ rest) offending.0 in
    let hop = hop_right set came.0 (entrance_of first) came.1 in
    let at = place_of set (entrance_of first) hop.0 hop.1 in
    let part = its_part (slice_get parts at.0) (siblings_within set parts at.0 at.0 (entrance_of first) (entrance_of first) are at.1 at.1 refl) in
    let all = stay_around set parts part.0 first first (second ∷ rest) came.0 are offending.0 (record { at = at.0; there = at.1; is = part.1 }) came.1 in
    let crossing = offending.1.crosses in
    let one = offending.1.differ in
    let two = one.4 in
    let here = stays_at set parts part.0 walk _ all crossing in
    by_test here (stays_at set parts part.0 walk _ all one) (stays_at set parts part.0 walk _ all two) crossing.4 two.4
  where
    by_test : {part : ℕ} {crossing one two : Visit} → Stays set parts part crossing → Stays set parts part one → Stays set parts part two → crossing.entered ≢ crossing.left →
        origin_of set one.program ≢ origin_of set two.program → ⊥
    by_test {part} {crossing} {one} {two} here first second crosses differ =
        offends_there set parts part crossing one are here first crosses (λ same.
        offends_there set parts part crossing two are here second crosses (λ as_second. differ (same ∙ sym as_second)))
