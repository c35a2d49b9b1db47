-- What is looked at before an order that was found is believed.
use Rattle.std.specs.Prelude.{◌≡◌, ◌≢◌, ℕ, ◌<◌, ◌≤◌, max, IsTrue, List, length, map, Some, slice_get, slice_index_or}
use Rattle.lynx_names.specs.declared.chain.ChainId.{ChainId}
use Rattle.lynx_set.specs.Set.{Set}
use Rattle.lynx_foot.specs.declared.kind.Kind.{Kind}
use Rattle.lynx_foot.specs.declared.kind.Kind.TheVariants.{Getting, Setting, Adding, Raising}
use Rattle.lynx_foot.specs.declared.touch.Touch.{Touch}
use Rattle.lynx_foot.specs.Tests.{collide}
use Rattle.lynx_order.specs.declared.search.touched.ChainTouch.{ChainTouch}
use Rattle.lynx_world.specs.Placed.{Placed}
use Rattle.lynx_order.specs.declared.rising.Greatest.{Greatest}
use Rattle.lynx_order.specs.declared.rising.Sweep.{Sweep}
use Rattle.lynx_order.specs.declared.explained.Explained.{Explained}
use Rattle.lynx_order.specs.declared.explained.Explained.TheVariants.{Order}
use Rattle.lynx_order.specs.inner.ChainsAt.{chain_at}
use Rattle.lynx_order.specs.Lists.{IsIn, AreDifferent, StandsBefore}
use Rattle.lynx_order.specs.Precedence.{touches_in}

-- the touches of each chain's hops are among these, where each chain has the number of its place
-- among the chains
abbrev pub HasTouches : Set → List Placed → List ChainId → List ChainTouch → Type 0
HasTouches set list chains touches =
    (place : ℕ) (placed : Placed) (chain : ChainId) (touch : Touch)
    → slice_get list place ≡ Some placed →
    IsIn touch (touches_in set chain placed.entry) →
    (number : ℕ) × (slice_get chains number ≡ Some chain)
    × IsIn (record { touch = touch; chain = number; place = place }) touches

-- each number of the one list stands in the other at the place to which it leads
abbrev pub Inverts : List ℕ → List ℕ → Type 0
Inverts numbers inverse =
    (place number : ℕ) → slice_get numbers place ≡ Some number
    → slice_get inverse number ≡ Some place

-- different numbers below the count
pub record AreNumbers (count : ℕ) (numbers : List ℕ) : Type 0 where
  pub once : AreDifferent numbers
  pub within : (number : ℕ) → IsIn number numbers → number < count

-- An order of all of so many chains, each once. A chain stands before those that touch the same
-- cell later in the list, in a way that doesn't commute.
pub record HoldsOrder (count : ℕ) (touches : List ChainTouch) (order : List ℕ) : Type 0 where
  pub numbers : AreNumbers count order
  pub all : (chain : ℕ) → chain < count → IsIn chain order
  pub in_order : (one other : ChainTouch) → IsIn one touches → IsIn other touches
      → one.chain < count → other.chain < count →
      one.chain ≢ other.chain → one.place < other.place → IsTrue (collide one.touch other.touch)
      → StandsBefore one.chain other.chain order

-- an order of these chains by numbers that hold
abbrev pub IsOrderHeld : List ChainId → List ChainTouch → List ℕ → Explained → Type 0
IsOrderHeld chains touches order explained =
    (explained ≡ Order (map (chain_at chains) order)) × HoldsOrder (length chains) touches order

-- the touches are of one cell
abbrev pub IsOfCell : ChainTouch → ChainTouch → Type 0
IsOfCell one other = (one.touch.table ≡ other.touch.table) × (one.touch.key ≡ other.touch.key)

-- by table, then key, then place in the list, the one touch is not behind the other
pub record IsNoLater (one other : ChainTouch) : Type 0 where
  pub tables : one.touch.table ≤ other.touch.table
  pub keys : one.touch.table ≡ other.touch.table → one.touch.key ≤ other.touch.key
  pub places : IsOfCell one other → one.place ≤ other.place

-- the rank of the touch's chain
abbrev pub rank_at : List ℕ → ChainTouch → ℕ
rank_at ranks touch = slice_index_or ranks touch.chain 0

-- the one touch is not behind the other, and where they collide its chain's rank isn't above that
-- of the other's
pub record KeepsRank (ranks : List ℕ) (one other : ChainTouch) : Type 0 where
  pub no_later : IsNoLater one other
  pub ranked : IsTrue (collide one.touch other.touch) → rank_at ranks one ≤ rank_at ranks other

-- the touches stand in order, and where two collide the rank of the first one's chain isn't above
-- that of the second's
abbrev pub Rise : List ℕ → List ChainTouch → Type 0
Rise ranks touches =
    (place later : ℕ) (one other : ChainTouch) → place < later → slice_get touches place ≡ Some one
    → slice_get touches later ≡ Some other →
    KeepsRank ranks one other

-- the greatest rank of that kind
abbrev pub greatest_of : Greatest → Kind → ℕ
greatest_of greatest Getting = greatest.getting
greatest_of greatest Setting = greatest.setting
greatest_of greatest Adding = greatest.adding
greatest_of greatest Raising = greatest.raising

-- with a rank of that kind
abbrev pub with_rank : Greatest → Kind → ℕ → Greatest
with_rank greatest Getting rank =
    record {
      getting = max greatest.getting rank;
      setting = greatest.setting;
      adding = greatest.adding;
      raising = greatest.raising;
    }
with_rank greatest Setting rank =
    record {
      getting = greatest.getting;
      setting = max greatest.setting rank;
      adding = greatest.adding;
      raising = greatest.raising;
    }
with_rank greatest Adding rank =
    record {
      getting = greatest.getting;
      setting = greatest.setting;
      adding = max greatest.adding rank;
      raising = greatest.raising;
    }
with_rank greatest Raising rank =
    record {
      getting = greatest.getting;
      setting = greatest.setting;
      adding = greatest.adding;
      raising = max greatest.raising rank;
    }

-- a touch that is not behind the last one, and whose rank is counted if it is of the same cell
pub record IsCounted (ranks : List ℕ) (sweep : Sweep) (one : ChainTouch) : Type 0 where
  pub no_later : IsNoLater one sweep.last
  pub counted : IsOfCell one sweep.last
      → rank_at ranks one ≤ greatest_of sweep.greatest one.touch.kind

-- the touch may come after those that are counted, and is counted with them then
pub record MayFollow (ranks : List ℕ) (sweep next : Sweep) (touch : ChainTouch) : Type 0 where
  pub kept : (one : ChainTouch) → IsCounted ranks sweep one → KeepsRank ranks one touch
  pub counted : (one : ChainTouch) → IsCounted ranks sweep one → IsCounted ranks next one
  pub own : IsCounted ranks next touch
