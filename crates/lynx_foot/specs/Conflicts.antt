-- When two hops conflict, and when they may.
use Rattle.std.specs.Prelude.{◌≡◌, ◌≤◌, ℕ, List, All, Any, IsTrue, not, Option, Some, option_map}
use Rattle.lynx_shards.specs.Shards.{server_of}
use Rattle.lynx_set.specs.declared.interval.Interval.{Interval}
use Rattle.lynx_set.specs.Set.{Set}
use Rattle.lynx_foot.specs.declared.reach.Reach.{Reach}
use Rattle.lynx_foot.specs.declared.touch.Touch.{Touch}
use Rattle.lynx_foot.specs.Kinds.{commute}
use Rattle.lynx_foot.specs.Feet.{touches_of}
use Rattle.lynx_foot.specs.Reaches.{reaches_of}
use Rattle.lynx_set.specs.Lookups.{server_at}

-- two touches of one cell, of kinds that don't commute
pub record Collides (left right : Touch) : Type 0 where
  pub same_table : left.table ≡ right.table
  pub same_key : left.key ≡ right.key
  pub kinds_collide : IsTrue (not (commute left.kind right.kind))

-- some touch of one collide with some touch of the other
abbrev pub Conflicts : List Touch → List Touch → Type 0
Conflicts lefts rights = Any (λ left. Any (λ right. Collides left right) rights) lefts

-- neither interval ends before the other begins; any key may meet any
abbrev pub MayMeet : Option Interval → Option Interval → Type 0
MayMeet (Some left) (Some right) = (left.low ≤ right.high) × (right.low ≤ left.high)
MayMeet left right = Unit {0}

-- two reaches into one table, with keys that may meet and kinds that don't commute
pub record MayCollide (left right : Reach) : Type 0 where
  pub same_table : left.table ≡ right.table
  pub keys_may_meet : MayMeet left.keys right.keys
  pub kinds_collide : IsTrue (not (commute left.kind right.kind))

-- two hops at one server, some reach of one of which may collide with some reach of the other
pub record MayConflict (set : Set) (left_program left_hop right_program right_hop : ℕ) : Type
    0 where
  pub same_server : server_at set left_program left_hop ≡ server_at set right_program right_hop
  pub reaches_may_collide : Any
      (λ left. Any (λ right. MayCollide left right) (reaches_of set right_program right_hop))
      (reaches_of set left_program left_hop)

-- each touch of the hop is of a key that its server keeps
abbrev pub KeysLieAtServer : Set → ℕ → ℕ → List ℕ → Type 0
KeysLieAtServer set program hop args =
    All (λ touch. server_at set program hop ≡ Some (server_of set.shards touch.table touch.key))
    (touches_of set program hop args)
