-- A walk of blocks offends exactly where some block that isn't forward is entered and left at hops that programs of other origins meet.
use Rattle.std.proofs.Common.{◌≡◌, ◌≢◌, ℕ, zero, suc, ◌+◌, ◌<◌, ◌≤◌, Bool, true, false, cond, not, List, [], ◌∷◌, length, Option, Some, None, refl, sym, ap, subst, ◌∙◌, arith}
use Rattle.std.specs.Prelude.{◌==◌, ◌&&◌, All, Any, filter_map, find, is_some, nat_lt, option_and_then, option_map, slice_get}
use Rattle.std.specs.List.{cons_option, list_any}
use Rattle.std.specs.Option.{option_map_or, option_or}
use Rattle.std.proofs.lemmas.Bool.{and_from, and_parts, eq-eqb, eqb-true, false≢true, not_from_false, not_from_true}
use Rattle.std.proofs.lemmas.Bool.Decides.{Decides-ltb, not_from_Decides}
use Rattle.std.proofs.lemmas.List.Elements.{All-cons, All-nil}
use Rattle.std.proofs.lemmas.Option.{none-some, same_Some, slice_get_read}
use Rattle.lynx_set.specs.Set.{Set}
use Rattle.lynx_set.specs.Lookups.{origin_of}
use Rattle.lynx_foot.proofs.ConflictLaws.{MayConflict-swapped}
use Rattle.lynx_check.specs.declared.backward.Backward.{Backward}
use Rattle.lynx_check.specs.declared.backward.End.{End}
use Rattle.lynx_graph.specs.declared.block.Block.{Block}
use Rattle.lynx_graph.specs.declared.block.Block.TheVariants.{One, Two}
use Rattle.lynx_graph.specs.declared.meeting.Place.{Place}
use Rattle.lynx_graph.specs.declared.nodes.Node.{Node}
use Rattle.lynx_graph.specs.Blocks.{IsBlock, IsForward, IsOffendingBlockWalk, Meets, MeetsAround, NoBlockWalkOffends, entrance_of, exit_of}
use Rattle.lynx_graph.specs.Nodes.{places_of, nodes_of}
use Rattle.lynx_graph.specs.Tests.{joins, same_server, has_come}
use Rattle.lynx_check.specs.inner.Backward.{backward_between, backward_from, backward_in, end_of, ends_of, is_abroad_at, one_at, round_of, turned}
use Rattle.lynx_graph.specs.inner.BlockTests.{is_backward}
use Rattle.lynx_graph.proofs.Decides.{Decides-joins, Decides-same_server}
use Rattle.lynx_graph.proofs.DecidesBlocks.{Decides-is_backward}
use Rattle.lynx_check.proofs.Divided.{fails}
use Rattle.lynx_graph.proofs.Lists.{find-Some, found-Some, found-any, is_some-find}
use Rattle.lynx_graph.proofs.Places.{hop_left, hop_right, node_at, place_at, place_of}
use Rattle.lynx_check.proofs.Sound.{at_place, option_and_then-Some, option_map-Some}

-- ---- meetings

Meets-swapped : (set : Set) (left right : Place) → Meets set left right → Meets set right left
Meets-swapped set left right meets = record {
  conflict = MayConflict-swapped set left.program left.hop right.program right.hop meets.conflict;
  apart = λ same. meets.apart (sym same);
}

-- ---- ends

-- a hop of the set that a program of another origin meets
record IsEnd (set : Set) (end : End) : Type 0 where
  pub meets : Meets set end.place end.meets
  pub origin : end.origin ≡ origin_of set end.place.program

-- what a chosen list has is chosen of an element
chosen : {X Y : Type 0} (choose : X → Option Y) (xs : List X) (k : ℕ) (y : Y) → slice_get (filter_map choose xs) k ≡ Some y → (n : ℕ) × (x : X) × (slice_get xs n ≡ Some x) × (choose x ≡ Some y)
chosen choose [] k y there = absurd (none-some y there)
chosen {X} {Y} choose (x ∷ xs) k y there = by_choice (choose x) refl k there (λ j. chosen choose xs j y)
  where
    by_choice : (o : Option Y) → choose x ≡ o → (k : ℕ) → slice_get (cons_option o (filter_map choose xs)) k ≡ Some y →
        ((j : ℕ) → slice_get (filter_map choose xs) j ≡ Some y → (n : ℕ) × (z : X) × (slice_get xs n ≡ Some z) × (choose z ≡ Some y)) →
        (n : ℕ) × (z : X) × (slice_get (x ∷ xs) n ≡ Some z) × (choose z ≡ Some y)
    by_choice None is k there rest = let later = rest k there in (suc later.0, later.1, later.2, later.3)
    by_choice (Some z) is zero there rest = (zero, x, refl, is ∙ there)
    by_choice (Some z) is (suc k) there rest = let later = rest k there in (suc later.0, later.1, later.2, later.3)

-- what is chosen of an element is in the chosen list
choice_at : {X Y : Type 0} (choose : X → Option Y) (xs : List X) (n : ℕ) (x : X) (y : Y) → slice_get xs n ≡ Some x → choose x ≡ Some y → (k : ℕ) × (slice_get (filter_map choose xs) k ≡ Some y)
choice_at choose [] n x y there is = absurd (none-some x there)
choice_at {X} {Y} choose (z ∷ xs) zero x y there is =
    (zero, ap (λ (o : Option Y). slice_get (cons_option o (filter_map choose xs)) zero) (ap choose (same_Some z x there) ∙ is))
choice_at {X} {Y} choose (z ∷ xs) (suc n) x y there is = by_choice (choose z) (choice_at choose xs n x y there is)
  where
    by_choice : (o : Option Y) → (k : ℕ) × (slice_get (filter_map choose xs) k ≡ Some y) → (k : ℕ) × (slice_get (cons_option o (filter_map choose xs)) k ≡ Some y)
    by_choice None later = later
    by_choice (Some w) later = (suc later.0, later.1)

-- the ends of a set's nodes are ends
IsEnd-of : (set : Set) (k : ℕ) (end : End) → slice_get (ends_of (nodes_of set)) k ≡ Some end → IsEnd set end
IsEnd-of set k end there =
    let of = chosen (end_of (nodes_of set)) (nodes_of set) k end there in
    let here = place_at set of.0 of.1 of.2 in
    at_node here.0 (ap (λ (node : Node). end_of (nodes_of set) node) (sym here.2) ∙ of.3)
  where
    at_node : (place : Place) → end_of (nodes_of set) (at_place set place) ≡ Some end → IsEnd set end
    at_node place is =
        let next = option_and_then-Some
        (λ next. option_map {U = End} (λ meets. record { place = place; origin = origin_of set place.program; meets = meets.place }) (slice_get (nodes_of set) next))
        (find (is_abroad_at (nodes_of set) (origin_of set place.program)) (at_place set place).neighbours) end is in
        let other = option_map-Some {Y = End} (λ meets. record { place = place; origin = origin_of set place.program; meets = meets.place }) (slice_get (nodes_of set) next.0) end next.2 in
        let first = find-Some (is_abroad_at (nodes_of set) (origin_of set place.program)) (at_place set place).neighbours next.0 next.1 in
        let of = found-Some (joins set place) (λ numbered. numbered.0) 0 (places_of set) first.0 next.0 first.1 in
        let met = place_at set next.0 other.0 other.1 in
        let number : of.at ≡ next.0 = (let same : 0 + of.at ≡ of.at = omega arith in sym (of.made ∙ same)) in
        let same_place : met.0 ≡ of.place = same_Some met.0 of.place (sym met.1 ∙ ap (slice_get (places_of set)) (sym number) ∙ of.there) in
        let abroad : not (same_server (origin_of set place.program) other.0.origin) ≡ true =
        ap (λ (o : Option Node). option_map_or (λ other. not (same_server (origin_of set place.program) other.origin)) o false) (sym other.1) ∙ first.2 in
        subst (IsEnd set) other.2 (record {
          meets = record {
            conflict = (Decides-joins set place other.0.place).0 (ap (joins set place) (ap (λ (node : Node). node.place) met.2 ∙ same_place) ∙ of.passes);
            apart = λ same. false≢true (sym (not_from_true _ ((Decides-same_server (origin_of set place.program) (origin_of set other.0.place.program)).1 same))
                ∙ ap (λ (o : Option ℕ). not (same_server (origin_of set place.program) o)) (ap (λ (node : Node). origin_of set node.place.program) met.2 ∙ ap (λ (node : Node). node.origin) (sym met.2)) ∙ abroad);
          };
          origin = refl;
        })

-- each hop that a program of another origin meets is one
end_at : (set : Set) (place other : Place) → Meets set place other → (k : ℕ) × (end : End) × (slice_get (ends_of (nodes_of set)) k ≡ Some end) × (end.place ≡ place)
end_at set place other meets =
    by_found (find is_abroad node.neighbours) refl (is_some-find is_abroad node.neighbours ∙ passes)
  where
    node : Node
    node = at_place set place

    is_abroad : ℕ → Bool
    is_abroad = is_abroad_at (nodes_of set) (origin_of set place.program)

    at : (n : ℕ) × (slice_get (places_of set) n ≡ Some other)
    at = let hop = hop_right set place other meets.conflict in place_of set other hop.0 hop.1

    here : (n : ℕ) × (slice_get (places_of set) n ≡ Some place)
    here = let hop = hop_left set place other meets.conflict in place_of set place hop.0 hop.1

    apart : not (same_server (origin_of set place.program) (origin_of set other.program)) ≡ true
    apart = not_from_false _ (fails _ (λ same. meets.apart ((Decides-same_server (origin_of set place.program) (origin_of set other.program)).0 same)))

    passes : list_any is_abroad node.neighbours ≡ true
    passes =
        let same : 0 + at.0 ≡ at.0 = omega arith in
        found-any (joins set place) (λ numbered. numbered.0) 0 (places_of set) at.0 other at.1 ((Decides-joins set place other).1 meets.conflict) is_abroad
        (ap is_abroad same ∙ ap (λ (o : Option Node). option_map_or (λ other. not (same_server (origin_of set place.program) other.origin)) o false) (node_at set at.0 other at.1) ∙ apart)

    ends_with : (next : ℕ) → find is_abroad node.neighbours ≡ Some next → (met : Option Node) → slice_get (nodes_of set) next ≡ met →
        option_map_or (λ other. not (same_server (origin_of set place.program) other.origin)) met false ≡ true → (end : End) × (end_of (nodes_of set) node ≡ Some end) × (end.place ≡ place)
    ends_with next found None none passes = absurd (false≢true passes)
    ends_with next found (Some met) is passes = (
      record { place = place; origin = origin_of set place.program; meets = met.place },
      ap (option_and_then (λ next. option_map {U = End} (λ meets. record { place = place; origin = origin_of set place.program; meets = meets.place }) (slice_get (nodes_of set) next))) found
          ∙ ap (option_map {U = End} (λ meets. record { place = place; origin = origin_of set place.program; meets = meets.place })) is,
      refl,
    )

    by_found : (o : Option ℕ) → find is_abroad node.neighbours ≡ o → is_some o ≡ true → (k : ℕ) × (end : End) × (slice_get (ends_of (nodes_of set)) k ≡ Some end) × (end.place ≡ place)
    by_found None is some = absurd (false≢true some)
    by_found (Some next) is some =
        let first = find-Some is_abroad node.neighbours next is in
        let end = ends_with next is (slice_get (nodes_of set) next) refl first.2 in
        let k = choice_at (end_of (nodes_of set)) (nodes_of set) here.0 node end.0 (node_at set here.0 place here.1) end.1 in
        (k.0, end.0, k.1, end.2)

-- ---- a block that isn't forward gives a walk

-- the block is entered at the one end and left by the other, and isn't forward
record IsBackward (set : Set) (backward : Backward) : Type 0 where
  pub entered : IsEnd set backward.entered
  pub left : IsEnd set backward.left
  pub entrance : entrance_of backward.block ≡ backward.entered.place
  pub exit : exit_of backward.block ≡ backward.left.place
  pub block : IsBlock set backward.block
  pub turned_block : IsBlock set (turned backward.block)
  pub backward_is : is_backward set backward.block ≡ true

between : (set : Set) (entered left : End) (block : Block) → IsEnd set entered → IsEnd set left → backward_between set entered left ≡ Some block →
    IsBackward set (record { entered = entered; left = left; block = block })
between set entered left block first last gives =
    by_one (entered.place.program == left.place.program && nat_lt left.place.hop entered.place.hop) refl gives
  where
    two : Option Block
    two = cond (same_server entered.origin left.origin && not (has_come set entered.place left.place.program left.place.hop))
        (Some (Two entered.place.program entered.place.hop left.place.program left.place.hop)) None

    by_two : (b : Bool) → (same_server entered.origin left.origin && not (has_come set entered.place left.place.program left.place.hop)) ≡ b →
        cond b (Some (Two entered.place.program entered.place.hop left.place.program left.place.hop)) None ≡ Some block → IsBackward set (record { entered = entered; left = left; block = block })
    by_two false is none = absurd (none-some block none)
    by_two true is some =
        let parts = and_parts _ _ is in
        let one_origin = sym first.origin ∙ (Decides-same_server entered.origin left.origin).0 parts.0 ∙ last.origin in
        subst (λ (b : Block). IsBackward set (record { entered = entered; left = left; block = b })) (same_Some _ block some)
        (record { entered = first; left = last; entrance = refl; exit = refl; block = one_origin; turned_block = sym one_origin; backward_is = parts.1 })

    by_one : (b : Bool) → (entered.place.program == left.place.program && nat_lt left.place.hop entered.place.hop) ≡ b →
        cond b (Some (One entered.place.program entered.place.hop left.place.hop)) two ≡ Some block → IsBackward set (record { entered = entered; left = left; block = block })
    by_one false is some = by_two _ refl some
    by_one true is some =
        let parts = and_parts _ _ is in
        let program = eqb-true _ _ parts.0 in
        let exit : record { program = entered.place.program; hop = left.place.hop } ≡ left.place = ap (λ (p : ℕ). let it : Place = record { program = p; hop = left.place.hop } in it) program in
        subst (λ (b : Block). IsBackward set (record { entered = entered; left = left; block = b })) (same_Some _ block some)
        (record { entered = first; left = last; entrance = refl; exit = exit; block = tt; turned_block = tt; backward_is = parts.1 })

from_end : (set : Set) (entered : End) (ends : List End) (backward : Backward) → IsEnd set entered → ((k : ℕ) (end : End) → slice_get ends k ≡ Some end → IsEnd set end) →
    backward_from set entered ends ≡ Some backward → IsBackward set backward
from_end set entered [] backward first all gives = absurd (none-some backward gives)
from_end set entered (left ∷ ends) backward first all gives =
    by_block (backward_between set entered left) refl gives (from_end set entered ends backward first (λ k end there. all (suc k) end there))
  where
    by_block : (o : Option Block) → backward_between set entered left ≡ o →
        option_or (option_map (λ block. record { entered = entered; left = left; block = block }) o) (backward_from set entered ends) ≡ Some backward →
        (backward_from set entered ends ≡ Some backward → IsBackward set backward) → IsBackward set backward
    by_block None is rest later = later rest
    by_block (Some block) is here later = subst (IsBackward set) (same_Some _ backward here) (between set entered left block first (all zero left refl) is)

from_ends : (set : Set) (ends rest : List End) (backward : Backward) → ((k : ℕ) (end : End) → slice_get ends k ≡ Some end → IsEnd set end) →
    ((k : ℕ) (end : End) → slice_get rest k ≡ Some end → IsEnd set end) → backward_in set ends rest ≡ Some backward → IsBackward set backward
from_ends set ends [] backward all some gives = absurd (none-some backward gives)
from_ends set ends (entered ∷ rest) backward all some gives =
    by_found (backward_from set entered ends) refl gives (from_ends set ends rest backward all (λ k end there. some (suc k) end there))
  where
    by_found : (o : Option Backward) → backward_from set entered ends ≡ o → option_or o (backward_in set ends rest) ≡ Some backward →
        (backward_in set ends rest ≡ Some backward → IsBackward set backward) → IsBackward set backward
    by_found None is gives later = later gives
    by_found (Some found) is here later = from_end set entered ends backward (some zero entered refl) all (is ∙ here)

turned_entrance : (block : Block) → entrance_of (turned block) ≡ exit_of block
turned_entrance (One program entered left) = refl
turned_entrance (Two first entered second left) = refl

turned_exit : (block : Block) → exit_of (turned block) ≡ entrance_of block
turned_exit (One program entered left) = refl
turned_exit (Two first entered second left) = refl

-- the walk through the block and back offends
pub round_offends : (set : Set) (backward : Backward) → backward_in set (ends_of (nodes_of set)) (ends_of (nodes_of set)) ≡ Some backward → IsOffendingBlockWalk set (round_of backward)
round_offends set backward gives =
    let is = from_ends set (ends_of (nodes_of set)) (ends_of (nodes_of set)) backward (IsEnd-of set) (IsEnd-of set) gives in
    let g = backward.left.meets in
    let k = backward.entered.meets in
    let out : Meets set (exit_of backward.block) g = subst (λ (p : Place). Meets set p g) (sym is.exit) is.left.meets in
    let back : Meets set (exit_of (turned backward.block)) k = subst (λ (p : Place). Meets set p k) (sym (turned_exit backward.block ∙ is.entrance)) is.entered.meets in
    let again : Meets set g (entrance_of (turned backward.block)) = subst (Meets set g) (sym (turned_entrance backward.block ∙ is.exit)) (Meets-swapped set backward.left.place g is.left.meets) in
    let closes : Meets set k (entrance_of backward.block) = subst (Meets set k) (sym is.entrance) (Meets-swapped set backward.entered.place k is.entered.meets) in (
      (
        All-cons (IsBlock set) backward.block (one_at g ∷ turned backward.block ∷ one_at k ∷ []) is.block
            (All-cons (IsBlock set) (one_at g) (turned backward.block ∷ one_at k ∷ []) tt
            (All-cons (IsBlock set) (turned backward.block) (one_at k ∷ []) is.turned_block (All-cons (IsBlock set) (one_at k) [] tt (All-nil (IsBlock set))))),
        (out, (again, (back, closes))),
      ),
      (0, backward.block, omega arith, refl, (Decides-is_backward set backward.block).0 is.backward_is),
    )

-- ---- a walk gives a block that isn't forward

-- the block is entered and left at hops that programs of other origins meet
record IsMet (set : Set) (block : Block) : Type 0 where
  pub before : Place
  pub enters : Meets set (entrance_of block) before
  pub behind : Place
  pub leaves : Meets set (exit_of block) behind

met_around : (set : Set) (first block : Block) (rest : List Block) (from : Place) → MeetsAround set first block rest → Meets set from (entrance_of block) →
    (k : ℕ) (one : Block) → slice_get (block ∷ rest) k ≡ Some one → IsMet set one
met_around set first block [] from around came zero one there =
    subst (IsMet set) (same_Some block one there) (record { before = from; enters = Meets-swapped set from (entrance_of block) came; behind = entrance_of first; leaves = around })
met_around set first block [] from around came (suc k) one there = absurd (none-some one there)
met_around set first block (next ∷ rest) from around came zero one there =
    subst (IsMet set) (same_Some block one there) (record { before = from; enters = Meets-swapped set from (entrance_of block) came; behind = entrance_of next; leaves = around.0 })
met_around set first block (next ∷ rest) from around came (suc k) one there = met_around set first next rest (exit_of block) around.1 around.0 k one there

-- where the first block is entered from
met_from : (set : Set) (first block : Block) (rest : List Block) → MeetsAround set first block rest → (from : Place) × Meets set from (entrance_of first)
met_from set first block [] around = (exit_of block, around)
met_from set first block (next ∷ rest) around = met_from set first next rest around.1

-- a block that isn't forward is found between its ends
some_between : (set : Set) (entered left : End) (block : Block) → IsEnd set entered → IsEnd set left → entered.place ≡ entrance_of block → left.place ≡ exit_of block → IsBlock set block →
    is_backward set block ≡ true → is_some (backward_between set entered left) ≡ true
some_between set entered left (One program at to) first last entrance exit block backward =
    ap (λ b. is_some (cond b (Some (One entered.place.program entered.place.hop left.place.hop)) two)) both
  where
    two : Option Block
    two = cond (same_server entered.origin left.origin && not (has_come set entered.place left.place.program left.place.hop))
        (Some (Two entered.place.program entered.place.hop left.place.program left.place.hop)) None

    both : (entered.place.program == left.place.program && nat_lt left.place.hop entered.place.hop) ≡ true
    both = and_from _ _ (eq-eqb entered.place.program left.place.program (ap (λ (p : Place). p.program) entrance ∙ ap (λ (p : Place). p.program) (sym exit)))
        (ap (λ (p : Place). nat_lt p.hop entered.place.hop) exit ∙ ap (λ (p : Place). nat_lt to p.hop) entrance ∙ backward)
some_between set entered left (Two one at other to) first last entrance exit block backward =
    by_one (entered.place.program == left.place.program && nat_lt left.place.hop entered.place.hop)
  where
    both : (same_server entered.origin left.origin && not (has_come set entered.place left.place.program left.place.hop)) ≡ true
    both = and_from _ _
        ((Decides-same_server entered.origin left.origin).1
        (first.origin ∙ ap (λ (p : Place). origin_of set p.program) entrance ∙ block ∙ ap (λ (p : Place). origin_of set p.program) (sym exit) ∙ sym last.origin))
        (ap (λ (p : Place). not (has_come set p left.place.program left.place.hop)) entrance
        ∙ ap (λ (p : Place). not (has_come set (record { program = one; hop = at }) p.program p.hop)) exit ∙ backward)

    by_one : (b : Bool) → is_some (cond b (Some (One entered.place.program entered.place.hop left.place.hop))
        (cond (same_server entered.origin left.origin && not (has_come set entered.place left.place.program left.place.hop))
        (Some (Two entered.place.program entered.place.hop left.place.program left.place.hop)) None)) ≡ true
    by_one true = refl
    by_one false = ap (λ b. is_some (cond b (Some (Two entered.place.program entered.place.hop left.place.program left.place.hop)) None)) both

-- where none is found from an end, no block that is left at another is backward
none_from : (set : Set) (entered : End) (ends : List End) (k : ℕ) (left : End) → backward_from set entered ends ≡ None → slice_get ends k ≡ Some left → is_some (backward_between set entered left) ≡ true → ⊥
none_from set entered [] k left none there some = none-some left there
none_from set entered (end ∷ ends) k left none there some =
    by_block (backward_between set entered end) refl none k there (λ none k there. none_from set entered ends k left none there some)
  where
    by_block : (o : Option Block) → backward_between set entered end ≡ o →
        option_or (option_map (λ block. record { entered = entered; left = end; block = block }) o) (backward_from set entered ends) ≡ None →
        (k : ℕ) → slice_get (end ∷ ends) k ≡ Some left → (backward_from set entered ends ≡ None → (j : ℕ) → slice_get ends j ≡ Some left → ⊥) → ⊥
    by_block None is none zero there later =
        false≢true (ap (λ (o : Option Block). is_some o) (sym is) ∙ ap (λ (e : End). is_some (backward_between set entered e)) (same_Some end left there) ∙ some)
    by_block None is none (suc k) there later = later none k there
    by_block (Some block) is none k there later = none-some _ (sym none)

none_in : (set : Set) (ends rest : List End) (n k : ℕ) (entered left : End) → backward_in set ends rest ≡ None → slice_get rest n ≡ Some entered → slice_get ends k ≡ Some left →
    is_some (backward_between set entered left) ≡ true → ⊥
none_in set ends [] n k entered left none here there some = none-some entered here
none_in set ends (end ∷ rest) n k entered left none here there some =
    by_found (backward_from set end ends) refl none n here (λ none n here. none_in set ends rest n k entered left none here there some)
  where
    by_found : (o : Option Backward) → backward_from set end ends ≡ o → option_or o (backward_in set ends rest) ≡ None → (n : ℕ) → slice_get (end ∷ rest) n ≡ Some entered →
        (backward_in set ends rest ≡ None → (m : ℕ) → slice_get rest m ≡ Some entered → ⊥) → ⊥
    by_found None is none zero here later = none_from set entered ends k left (ap (λ (e : End). backward_from set e ends) (sym (same_Some end entered here)) ∙ is) there some
    by_found None is none (suc n) here later = later none n here
    by_found (Some found) is none n here later = none-some found (sym none)

-- no walk of blocks offends where no such block is found
pub no_round : (set : Set) → backward_in set (ends_of (nodes_of set)) (ends_of (nodes_of set)) ≡ None → NoBlockWalkOffends set
no_round set none [] offending = offending.0
no_round set none (only ∷ []) offending = offending.0
no_round set none (first ∷ second ∷ rest) offending =
    let walk = first ∷ second ∷ rest in
    let around = offending.0.1 in
    let found = offending.1 in
    let block = found.1 in
    let came = met_from set first first (second ∷ rest) around in
    let is = met_around set first first (second ∷ rest) came.0 around came.1 found.0 block (slice_get_read walk (length walk) found.0 block refl found.2 (sym found.3)) in
    let entered = end_at set (entrance_of block) is.before is.enters in
    let left = end_at set (exit_of block) is.behind is.leaves in
    let is_one : IsBlock set block = subst (IsBlock set) found.3 (offending.0.0 found.0 block found.2) in
    none_in set (ends_of (nodes_of set)) (ends_of (nodes_of set)) entered.0 left.0 entered.1 left.1 none entered.2 left.2
    (some_between set entered.1 left.1 block (IsEnd-of set entered.0 entered.1 entered.2) (IsEnd-of set left.0 left.1 left.2) entered.3 left.3 is_one ((Decides-is_backward set block).1 found.4))
