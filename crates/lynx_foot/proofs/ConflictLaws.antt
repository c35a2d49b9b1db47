-- Conflict needs no order, and where keys lie at their servers, hops that conflict may conflict.
use Rattle.std.specs.Prelude.{◌≡◌, ◌≤◌, ◌==◌, ℕ, Bool, true, false, cond, List, [], ◌∷◌, map, Any, Option, Some, None, not, slice_index, IsTrue, refl}
use Rattle.std.proofs.Common.{zero, suc, sym, ap, ◌∙◌, subst, arith}
use Rattle.std.proofs.lemmas.Bool.{eqb-true}
use Rattle.std.proofs.lemmas.Bool.Decides.{Decides-and}
use Rattle.std.proofs.lemmas.List.Elements.{All-contains}
use Rattle.lynx_set.specs.declared.action.Key.{Key}
use Rattle.lynx_set.specs.declared.action.Key.TheVariants.{Literal, Param}
use Rattle.lynx_set.specs.declared.interval.Interval.{Interval}
use Rattle.lynx_set.specs.declared.program.ParameterRange.{ParameterRange}
use Rattle.lynx_set.specs.Intervals.{are_in_range, holds, range_of}
use Rattle.lynx_set.specs.Set.{Set}
use Rattle.lynx_shards.specs.Shards.{server_of}
use Rattle.lynx_hops.specs.Meaning.{key_of}
use Rattle.lynx_foot.specs.declared.kind.Kind.{Kind}
use Rattle.lynx_foot.specs.declared.kind.Kind.TheVariants.{Getting, Setting, Adding, Raising}
use Rattle.lynx_foot.specs.declared.foot.Foot.{Foot}
use Rattle.lynx_foot.specs.declared.reach.Reach.{Reach}
use Rattle.lynx_foot.specs.declared.touch.Touch.{Touch}
use Rattle.lynx_foot.specs.Kinds.{commute}
use Rattle.lynx_foot.specs.Feet.{footprint_of, touch_of, touches_of}
use Rattle.lynx_foot.specs.Reaches.{keys_of, reach_of, reaches_of}
use Rattle.lynx_foot.specs.Conflicts.{Collides, Conflicts, KeysLieAtServer, MayCollide, MayConflict, MayMeet}
use Rattle.lynx_set.specs.Lookups.{ranges_of, server_at}
use Rattle.lynx_foot.proofs.Decides.{Decides-itself, Decides-leb}

-- ---- some element

-- a weaker fact of some element
pub Any-weaker : {X : Type 0} (P Q : X → Type 0) → ((x : X) → P x → Q x) → (xs : List X) → Any P xs → Any Q xs
Any-weaker P Q weaker xs found = (found.0, found.1, found.2, found.3, weaker found.1 found.4)

-- some element of a mapped list
pub Any-map : {X Y : Type 0} (f : X → Y) (P : Y → Type 0) (xs : List X) → Any P (map f xs) → Any (λ x. P (f x)) xs
Any-map f P [] (k, y, within, is, holds) = absurd (omega arith)
Any-map f P (x ∷ xs) (zero, y, within, is, holds) = (0, x, omega arith, refl, subst P (sym is) holds)
Any-map f P (x ∷ xs) (suc k, y, within, is, holds) =
    let found = Any-map f P xs (k, y, omega arith, is, holds) in
    (suc found.0, found.1, omega arith, found.3, found.4)

-- and the other way
pub Any-mapped : {X Y : Type 0} (f : X → Y) (P : Y → Type 0) (xs : List X) → Any (λ x. P (f x)) xs → Any P (map f xs)
Any-mapped f P [] (k, x, within, is, holds) = absurd (omega arith)
Any-mapped f P (x ∷ xs) (zero, y, within, is, holds) = (0, f x, omega arith, refl, subst (λ y. P (f y)) (sym is) holds)
Any-mapped f P (x ∷ xs) (suc k, y, within, is, holds) =
    let found = Any-mapped f P xs (k, y, omega arith, is, holds) in
    (suc found.0, found.1, omega arith, found.3, found.4)

-- some element of one list and some of the other, the other way round
pub Any-swapped : {X Y : Type 0} (R : X → Y → Type 0) (S : Y → X → Type 0) → ((x : X) (y : Y) → R x y → S y x) → (xs : List X) (ys : List Y) →
    Any (λ x. Any (λ y. R x y) ys) xs → Any (λ y. Any (λ x. S y x) xs) ys
Any-swapped R S turn xs ys found =
    (found.4.0, found.4.1, found.4.2, found.4.3, (found.0, found.1, found.2, found.3, turn found.1 found.4.1 found.4.4))

-- ---- no order

pub commute-swapped : (left right : Kind) → commute left right ≡ commute right left
commute-swapped Getting Getting = refl
commute-swapped Getting Setting = refl
commute-swapped Getting Adding = refl
commute-swapped Getting Raising = refl
commute-swapped Setting Getting = refl
commute-swapped Setting Setting = refl
commute-swapped Setting Adding = refl
commute-swapped Setting Raising = refl
commute-swapped Adding Getting = refl
commute-swapped Adding Setting = refl
commute-swapped Adding Adding = refl
commute-swapped Adding Raising = refl
commute-swapped Raising Getting = refl
commute-swapped Raising Setting = refl
commute-swapped Raising Adding = refl
commute-swapped Raising Raising = refl

kinds_swapped : (left right : Kind) → IsTrue (not (commute left right)) → IsTrue (not (commute right left))
kinds_swapped left right collide = ap not (commute-swapped right left) ∙ collide

pub Collides-swapped : (left right : Touch) → Collides left right → Collides right left
Collides-swapped left right collide = record {
  same_table = sym collide.same_table;
  same_key = sym collide.same_key;
  kinds_collide = kinds_swapped left.kind right.kind collide.kinds_collide;
}

-- conflict needs no order
pub Conflicts-swapped : (lefts rights : List Touch) → Conflicts lefts rights → Conflicts rights lefts
Conflicts-swapped lefts rights = Any-swapped Collides Collides Collides-swapped lefts rights

MayMeet-swapped : (left right : Option Interval) → MayMeet left right → MayMeet right left
MayMeet-swapped (Some left) (Some right) meet = (meet.1, meet.0)
MayMeet-swapped (Some left) None _ = tt
MayMeet-swapped None (Some right) _ = tt
MayMeet-swapped None None _ = tt

MayCollide-swapped : (left right : Reach) → MayCollide left right → MayCollide right left
MayCollide-swapped left right collide = record {
  same_table = sym collide.same_table;
  keys_may_meet = MayMeet-swapped left.keys right.keys collide.keys_may_meet;
  kinds_collide = kinds_swapped left.kind right.kind collide.kinds_collide;
}

-- nor does a conflict that may be
pub MayConflict-swapped : (set : Set) (left_program left_hop right_program right_hop : ℕ) →
    MayConflict set left_program left_hop right_program right_hop → MayConflict set right_program right_hop left_program left_hop
MayConflict-swapped set left_program left_hop right_program right_hop may = record {
  same_server = sym may.same_server;
  reaches_may_collide = Any-swapped MayCollide MayCollide MayCollide-swapped (reaches_of set left_program left_hop) (reaches_of set right_program right_hop) may.reaches_may_collide;
}

-- ---- hops that conflict may conflict

-- the keys are all, or the key is one of them
abbrev IsAmong : ℕ → Option Interval → Type 0
IsAmong key (Some keys) = (keys.low ≤ key) × (key ≤ keys.high)
IsAmong key None = Unit {0}

both_hold : (interval : Interval) (number : ℕ) → holds interval number ≡ true → (interval.low ≤ number) × (number ≤ interval.high)
both_hold interval number e = (Decides-and _ _ (Decides-leb interval.low number) (Decides-leb number interval.high)).0 e

-- an argument in range is among the keys of its parameter
argument_among : (ranges : List ParameterRange) (args : List ℕ) (parameter : ℕ) → are_in_range ranges args ≡ true → IsAmong (slice_index args parameter) (range_of ranges parameter)
argument_among [] args parameter all = tt
argument_among (range ∷ ranges) args parameter all =
    by (range.parameter == parameter) refl (all_hold all) (argument_among ranges args parameter)
  where
    all_hold : are_in_range (range ∷ ranges) args ≡ true → (holds range.interval (slice_index args range.parameter) ≡ true) × (are_in_range ranges args ≡ true)
    all_hold e = (Decides-and _ _ (Decides-itself (holds range.interval (slice_index args range.parameter))) (Decides-itself (are_in_range ranges args))).0 e

    by : (same : Bool) → (range.parameter == parameter) ≡ same → (holds range.interval (slice_index args range.parameter) ≡ true) × (are_in_range ranges args ≡ true)
        → (are_in_range ranges args ≡ true → IsAmong (slice_index args parameter) (range_of ranges parameter))
        → IsAmong (slice_index args parameter) (cond same (Some range.interval) (range_of ranges parameter))
    by true is they_do later =
        both_hold range.interval (slice_index args parameter) (ap (λ (p : ℕ). holds range.interval (slice_index args p)) (sym (eqb-true _ _ is)) ∙ they_do.0)
    by false is they_do later = later they_do.1

key_among : (ranges : List ParameterRange) (args : List ℕ) (key : Key) → are_in_range ranges args ≡ true → IsAmong (key_of args key) (keys_of ranges key)
key_among ranges args (Literal key) all = (omega arith, omega arith)
key_among ranges args (Param place) all = argument_among ranges args place all

-- keys among which is one and the same may meet
MayMeet-from_IsAmong : (key other : ℕ) (left right : Option Interval) → key ≡ other → IsAmong key left → IsAmong other right → MayMeet left right
MayMeet-from_IsAmong key other (Some left) (Some right) same in_left in_right = (omega (arith, same, in_left.0, in_right.1), omega (arith, same, in_left.1, in_right.0))
MayMeet-from_IsAmong key other (Some left) None same in_left in_right = tt
MayMeet-from_IsAmong key other None right same in_left in_right = tt

MayCollide-from_Collides : (left_ranges right_ranges : List ParameterRange) (left_args right_args : List ℕ) (left right : Foot) → are_in_range left_ranges left_args ≡ true → are_in_range right_ranges right_args ≡ true
    → Collides (touch_of left_args left) (touch_of right_args right) → MayCollide (reach_of left_ranges left) (reach_of right_ranges right)
MayCollide-from_Collides left_ranges right_ranges left_args right_args left right left_lie right_lie collide = record {
  same_table = collide.same_table;
  keys_may_meet = MayMeet-from_IsAmong (key_of left_args left.key) (key_of right_args right.key) (keys_of left_ranges left.key) (keys_of right_ranges right.key) collide.same_key
      (key_among left_ranges left_args left.key left_lie) (key_among right_ranges right_args right.key right_lie);
  kinds_collide = collide.kinds_collide;
}

-- some reaches may collide
reaches_from_Conflicts : (left_ranges right_ranges : List ParameterRange) (left_args right_args : List ℕ) (lefts rights : List Foot) → are_in_range left_ranges left_args ≡ true → are_in_range right_ranges right_args ≡ true
    → Conflicts (map (touch_of left_args) lefts) (map (touch_of right_args) rights)
    → Any (λ left. Any (λ right. MayCollide left right) (map (reach_of right_ranges) rights)) (map (reach_of left_ranges) lefts)
reaches_from_Conflicts left_ranges right_ranges left_args right_args lefts rights left_lie right_lie conflict =
    Any-mapped (reach_of left_ranges) (λ left. Any (λ right. MayCollide left right) (map (reach_of right_ranges) rights)) lefts
    (Any-weaker
    (λ left. Any (λ right. Collides (touch_of left_args left) right) (map (touch_of right_args) rights))
    (λ left. Any (λ right. MayCollide (reach_of left_ranges left) right) (map (reach_of right_ranges) rights))
    (λ left some. Any-mapped (reach_of right_ranges) (λ right. MayCollide (reach_of left_ranges left) right) rights (Any-weaker
    (λ right. Collides (touch_of left_args left) (touch_of right_args right))
    (λ right. MayCollide (reach_of left_ranges left) (reach_of right_ranges right))
    (λ right. MayCollide-from_Collides left_ranges right_ranges left_args right_args left right left_lie right_lie)
    rights
    (Any-map (touch_of right_args) (λ right. Collides (touch_of left_args left) right) rights some)))
    lefts
    (Any-map (touch_of left_args) (λ left. Any (λ right. Collides left right) (map (touch_of right_args) rights)) lefts conflict))

-- where arguments lie in their ranges, and keys at their hops' servers, hops that conflict may conflict
pub MayConflict-from_Conflicts : (set : Set) (left_program left_hop right_program right_hop : ℕ) (left_args right_args : List ℕ) →
    are_in_range (ranges_of set left_program) left_args ≡ true → are_in_range (ranges_of set right_program) right_args ≡ true →
    KeysLieAtServer set left_program left_hop left_args → KeysLieAtServer set right_program right_hop right_args →
    Conflicts (touches_of set left_program left_hop left_args) (touches_of set right_program right_hop right_args) →
    MayConflict set left_program left_hop right_program right_hop
MayConflict-from_Conflicts set left_program left_hop right_program right_hop left_args right_args left_in right_in left_lie right_lie conflict =
    let left = conflict.1 in
    let right = conflict.4.1 in
    let collide = conflict.4.4 in
    let left_here = All-contains (λ touch. server_at set left_program left_hop ≡ Some (server_of set.shards touch.table touch.key)) (touches_of set left_program left_hop left_args) left left_lie (conflict.0, conflict.2, conflict.3) in
    let right_here = All-contains (λ touch. server_at set right_program right_hop ≡ Some (server_of set.shards touch.table touch.key)) (touches_of set right_program right_hop right_args) right right_lie (conflict.4.0, conflict.4.2, conflict.4.3) in
    record {
      same_server = left_here ∙ ap (λ table. Some (server_of set.shards table left.key)) collide.same_table ∙ ap (λ key. Some (server_of set.shards right.table key)) collide.same_key ∙ sym right_here;
      reaches_may_collide = reaches_from_Conflicts (ranges_of set left_program) (ranges_of set right_program) left_args right_args (footprint_of set left_program left_hop) (footprint_of set right_program right_hop) left_in right_in conflict;
    }
