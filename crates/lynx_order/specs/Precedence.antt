-- Which chains precede which, in the list of a world.
use Rattle.std.specs.Prelude.{◌≡◌, ◌≢◌, ℕ, ◌<◌, List, [], ◌∷◌, if◌then◌else◌, slice_get, Some}
use Rattle.lynx_names.specs.declared.chain.ChainId.{ChainId}
use Rattle.lynx_set.specs.Set.{Set}
use Rattle.lynx_foot.specs.declared.touch.Touch.{Touch}
use Rattle.lynx_foot.specs.Feet.{touches_of}
use Rattle.lynx_foot.specs.Conflicts.{Conflicts}
use Rattle.lynx_entry.specs.declared.entry.Entry.{Entry}
use Rattle.lynx_entry.specs.declared.entry.Entry.TheVariants.{Begun, Refused, Hop}
use Rattle.lynx_rules.specs.Deliveries.{same_chain}
use Rattle.lynx_world.specs.Placed.{Placed}
use Rattle.lynx_order.specs.Lists.{AreDifferent, StandsBefore}

-- what the chain's hop touched in an entry: nothing, if the entry isn't one of the chain's hops
abbrev pub touches_in : Set → ChainId → Entry → List Touch
touches_in set chain (Begun begun) =
    if same_chain begun.chain chain then touches_of set begun.request.program 0 begun.request.args
    else []
touches_in set chain (Refused refused) = []
touches_in set chain (Hop ran) =
    if same_chain ran.message.chain chain
    then touches_of set ran.message.program ran.message.hop ran.message.args
    else []

-- A hop of the one chain stands in the list before a hop of the other, which conflicts with it.
pub record Precedes (set : Set) (list : List Placed) (one other : ChainId) : Type 0 where
  pub different : one ≢ other
  pub place : ℕ
  pub later : ℕ
  pub in_order : place < later
  pub first : Placed
  pub second : Placed
  pub first_there : slice_get list place ≡ Some first
  pub second_there : slice_get list later ≡ Some second
  pub conflict : Conflicts (touches_in set one first.entry) (touches_in set other second.entry)

-- each chain stands before those that it precedes
abbrev pub KeepsPrecedence : Set → List Placed → List ChainId → Type 0
KeepsPrecedence set list chains =
    (one other : ChainId) → Precedes set list one other → StandsBefore one other chains

-- the chain precedes the next, each of the rest the one after it, and the last of them the first
abbrev pub PrecedesAround : Set → List Placed → ChainId → ChainId → List ChainId → Type 0
PrecedesAround set list first chain [] = Precedes set list chain first
PrecedesAround set list first chain (next ∷ rest) =
    Precedes set list chain next × PrecedesAround set list first next rest

-- at least two chains, all different, each of which precedes the next, and the last the first
abbrev pub IsCycle : Set → List Placed → List ChainId → Type 0
IsCycle set list [] = ⊥
IsCycle set list (only ∷ []) = ⊥
IsCycle set list (first ∷ second ∷ rest) =
    AreDifferent (first ∷ second ∷ rest) × PrecedesAround set list first first (second ∷ rest)
