-- What keepers, one for each server, gather to.
use Rattle.std.specs.Prelude.{◌≡◌, ◌≢◌, ℕ, List, length, slice_get, Some, Result, Ok, Err}
use Rattle.lynx_set.specs.Set.{Set}
use Rattle.lynx_entry.specs.Entry.{History}
use Rattle.lynx_keep.specs.Kept.{KeptState, Terms}
use Rattle.lynx_server.specs.Opening.{Finds, FindsFault, FindsNoRoom}
use Rattle.lynx_world.specs.Worlds.{WorldState}
use Rattle.lynx_weave.specs.declared.fault.WeaveFault.{WeaveFault}
use Rattle.lynx_weave.specs.declared.fault.WeaveFault.TheVariants as weave
use Rattle.lynx_weave.specs.declared.told.ToldItem.{ToldItem}
use Rattle.lynx_weave.specs.Weaving.{IsWoven, Weaves}
use Rattle.lynx_weave.specs.declared.gather_fault.GatherFault.{GatherFault}
use Rattle.lynx_weave.specs.declared.gather_fault.GatherFault.TheVariants.{Load, Weave, Memory}

-- it holds of each server's keeper before and after
abbrev pub Each : {K : Type 0} → (K → K → Type 0) → List K → List K → Type 0
Each {K} holds old new =
    (server : ℕ) (before after : K) → slice_get old server ≡ Some before
    → slice_get new server ≡ Some after → holds before after

-- this history was read: it is what the keeper keeps, and all that it kept
pub record FindsHistory {K : Type 0} (terms : Terms K) (before after : K) (history : History) : Type
    0 where
  pub found : KeptState
  pub finds : Finds terms before after found
  pub history_is : found.entries ≡ history

-- each server's history was read of its keeper
pub record FindsAll {K : Type 0} (terms : Terms K) (old new : List K)
    (histories : List History) : Type 0 where
  pub many : length histories ≡ length old
  pub each : (server : ℕ) (before after : K) (history : History)
      → slice_get old server ≡ Some before →
      slice_get new server ≡ Some after → slice_get histories server ≡ Some history
      → FindsHistory terms before after history

-- what was read, and a world of it
pub record IsGathered {K : Type 0} (terms : Terms K) (set : Set) (old new : List K)
    (told : List (List ToldItem)) (world : WorldState) : Type 0 where
  pub histories : List History
  pub finds : FindsAll terms old new histories
  pub woven : IsWoven set histories told world

-- what was read, and why it doesn't weave
pub record IsUnwoven {K : Type 0} (terms : Terms K) (set : Set) (old new : List K)
    (told : List (List ToldItem)) (fault : WeaveFault) : Type 0 where
  pub histories : List History
  pub finds : FindsAll terms old new histories
  pub unwoven : Weaves set histories told (Err fault)
  pub no_want : fault ≢ weave.Memory

-- the store of that server failed; each other keeper keeps what it kept
pub record IsUnloaded {K : Type 0} (terms : Terms K) (old new : List K) (server : ℕ) : Type 0 where
  pub before : K
  pub after : K
  pub before_is : slice_get old server ≡ Some before
  pub after_is : slice_get new server ≡ Some after
  pub fault : FindsFault terms before after
  pub others : (other : ℕ) (one then : K) → other ≢ server → slice_get old other ≡ Some one
      → slice_get new other ≡ Some then →
      FindsNoRoom terms one then

-- A world of what the keepers keep, or why there is none.
abbrev pub Gathers : {K : Type 0} → Terms K → Set → List K → List K → List (List ToldItem)
    → Result WorldState GatherFault → Type 0
Gathers terms set old new told (Ok world) = IsGathered terms set old new told world
Gathers terms set old new told (Err (Load server)) = IsUnloaded terms old new server
Gathers terms set old new told (Err (Weave fault)) = IsUnwoven terms set old new told fault
Gathers terms set old new told (Err Memory) = Each (FindsNoRoom terms) old new
