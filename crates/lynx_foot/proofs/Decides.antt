-- The tests of conflicts decide what they are named for.
use Rattle.std.proofs.Common.{◌≡◌, ◌≤◌, leb, ℕ, Bool, List, Option, Some, None, true, not, refl, IsTrue}
use Rattle.std.specs.Bool.{Decides}
use Rattle.std.specs.List.{Any, list_any}
use Rattle.std.proofs.lemmas.Bool.{leb-true, le-leb}
use Rattle.std.proofs.lemmas.Bool.Decides.{Decides-eqb, Decides-and, Decides-like}
use Rattle.std.proofs.lemmas.List.Folds.{Any-from_list_any, list_any-from_Any}
use Rattle.lynx_set.specs.declared.interval.Interval.{Interval}
use Rattle.lynx_foot.specs.declared.reach.Reach.{Reach}
use Rattle.lynx_foot.specs.declared.touch.Touch.{Touch}
use Rattle.lynx_set.specs.Set.{Set}
use Rattle.lynx_foot.specs.Kinds.{commute}
use Rattle.lynx_foot.specs.Reaches.{reaches_of}
use Rattle.lynx_foot.specs.Conflicts.{Collides, Conflicts, MayCollide, MayMeet, MayConflict}
use Rattle.lynx_foot.specs.Tests.{collide, some_collide, may_collide, may_meet, some_may_collide}
use Rattle.lynx_set.specs.Lookups.{server_at}

-- a test of the elements decides a fact of some element
Decides-list_any : {X : Type 0} (p : X → Bool) (P : X → Type 0) → ((x : X) → Decides (p x) (P x)) → (xs : List X) → Decides (list_any p xs) (Any P xs)
Decides-list_any p P each xs = (
  λ passes. let found = Any-from_list_any p xs passes in (found.0, found.1, found.2, found.3, (each found.1).0 found.4),
  λ found. list_any-from_Any p xs (found.0, found.1, found.2, found.3, (each found.1).1 found.4),
)

pub Decides-leb : (a b : ℕ) → Decides (leb a b) (a ≤ b)
Decides-leb a b = (leb-true a b, le-leb a b)

-- a test decides itself
pub Decides-itself : (b : Bool) → Decides b (b ≡ true)
Decides-itself b = (λ holds. holds, λ holds. holds)

Decides-collide : (left right : Touch) → Decides (collide left right) (Collides left right)
Decides-collide left right = Decides-like
    {P = ((left.table ≡ right.table) × (left.key ≡ right.key)) × IsTrue (not (commute left.kind right.kind))}
    (collide left right)
    (λ parts. record { same_table = parts.0.0; same_key = parts.0.1; kinds_collide = parts.1 })
    (λ whole. ((whole.same_table, whole.same_key), whole.kinds_collide))
    (Decides-and _ _ (Decides-and _ _ (Decides-eqb left.table right.table) (Decides-eqb left.key right.key)) (Decides-itself (not (commute left.kind right.kind))))

pub Decides-some_collide : (lefts rights : List Touch) → Decides (some_collide lefts rights) (Conflicts lefts rights)
Decides-some_collide lefts rights = Decides-list_any _ _ (λ left. Decides-list_any _ _ (Decides-collide left) rights) lefts

Decides-may_meet : (left right : Option Interval) → Decides (may_meet left right) (MayMeet left right)
Decides-may_meet (Some left) (Some right) = Decides-and _ _ (Decides-leb left.low right.high) (Decides-leb right.low left.high)
Decides-may_meet (Some left) None = (λ _. tt, λ _. refl)
Decides-may_meet None right = (λ _. tt, λ _. refl)

Decides-may_collide : (left right : Reach) → Decides (may_collide left right) (MayCollide left right)
Decides-may_collide left right = Decides-like
    {P = ((left.table ≡ right.table) × MayMeet left.keys right.keys) × IsTrue (not (commute left.kind right.kind))}
    (may_collide left right)
    (λ parts. record { same_table = parts.0.0; keys_may_meet = parts.0.1; kinds_collide = parts.1 })
    (λ whole. ((whole.same_table, whole.keys_may_meet), whole.kinds_collide))
    (Decides-and _ _ (Decides-and _ _ (Decides-eqb left.table right.table) (Decides-may_meet left.keys right.keys)) (Decides-itself (not (commute left.kind right.kind))))

pub Decides-some_may_collide : (lefts rights : List Reach) → Decides (some_may_collide lefts rights) (Any (λ left. Any (λ right. MayCollide left right) rights) lefts)
Decides-some_may_collide lefts rights = Decides-list_any _ _ (λ left. Decides-list_any _ _ (Decides-may_collide left) rights) lefts

-- between hops of one server, the reaches alone decide
pub Decides-MayConflict : (set : Set) (left_program left_hop right_program right_hop : ℕ) →
    server_at set left_program left_hop ≡ server_at set right_program right_hop →
    Decides (some_may_collide (reaches_of set left_program left_hop) (reaches_of set right_program right_hop)) (MayConflict set left_program left_hop right_program right_hop)
Decides-MayConflict set left_program left_hop right_program right_hop same =
    let reaches = Decides-some_may_collide (reaches_of set left_program left_hop) (reaches_of set right_program right_hop) in
    (λ passes. record { same_server = same; reaches_may_collide = reaches.0 passes }, λ may. reaches.1 may.reaches_may_collide)
