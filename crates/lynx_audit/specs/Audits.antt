-- What an audit of stores finds.
use Rattle.std.specs.Prelude.{◌≡◌, ◌++◌, ℕ, List, [], Option, length, slice_get, Some, Err}
use Rattle.std.specs.Io.KnownBytes.{Appends}
use Rattle.std.specs.List.Sorted.{IsPermutation}
use Rattle.lynx_set.specs.Rules.{IsSet}
use Rattle.lynx_set.specs.Set.{Set}
use Rattle.lynx_graph.specs.Acceptance.{IsAccepted}
use Rattle.lynx_entry.specs.Entry.{History}
use Rattle.lynx_keep.specs.Kept.{Terms}
use Rattle.lynx_server.specs.Opening.{IsOpened, Opens}
use Rattle.lynx_server.specs.declared.fault.OpenFault.{OpenFault}
use Rattle.lynx_server.specs.Serving.{Serving}
use Rattle.lynx_world.specs.Worlds.{WorldState}
use Rattle.lynx_weave.specs.Weaving.{IsWoven}
use Rattle.lynx_order.specs.declared.explained.Explained.{Explained}
use Rattle.lynx_order.specs.Explained.{GivesOrder}
use Rattle.lynx_promises.specs.Promises.{KeepsPromises}
use Rattle.lynx_service.specs.Faults.{contents_fault}
use Rattle.lynx_service.specs.Services.{IsExplainedBy, last_lines}
use Rattle.lynx_service.specs.declared.fault.ServeFault.{ServeFault}
use Rattle.lynx_service.specs.declared.fault.ServeFault.TheVariants.{Store}
use Rattle.lynx_world.specs.Tables.{cells_of}
use Rattle.lynx_audit.specs.Sizes.{cells_lines, entries_lines}

-- a server opens over its keeper, with this history: each entry is lawful after those before it,
-- and the cells are those that they leave
pub record IsOpenedTo {K : Type 0} (terms : Terms K) (set : Set) (server : ℕ) (keeper : K)
    (history : History) : Type 0 where
  pub here : Serving K
  pub opened : IsOpened terms set server keeper here
  pub history_is : here.history ≡ history

-- each server of the set opens over its keeper, with its history
pub record AreOpenedTo {K : Type 0} (terms : Terms K) (set : Set) (keepers : List K)
    (histories : List History) : Type 0 where
  pub many : length histories ≡ set.servers
  pub each : (server : ℕ) (keeper : K) (history : History)
      → slice_get keepers server ≡ Some keeper → slice_get histories server ≡ Some history
      → IsOpenedTo terms set server keeper history

-- the server doesn't open over its keeper, for the reason that the fault tells
pub record DoesntOpen {K : Type 0} (terms : Terms K) (set : Set) (server : ℕ) (keeper : K)
    (fault : ServeFault) : Type 0 where
  pub why : OpenFault
  pub told : fault ≡ contents_fault server why
  pub unopened : Opens terms set server keeper (Err why)

-- it is so of that server's keeper among these
pub record IsBlamed {K : Type 0} (terms : Terms K) (set : Set) (keepers : List K) (server : ℕ)
    (fault : ServeFault) : Type 0 where
  pub keeper : K
  pub there : slice_get keepers server ≡ Some keeper
  pub unopened : DoesntOpen terms set server keeper fault

-- A fault that names the store of a server names one that doesn't open over its keeper.
abbrev pub BlamesRight : {K : Type 0} → Terms K → Set → List K → ServeFault → Type 0
BlamesRight terms set keepers (Store server word) =
    IsBlamed terms set keepers server (Store server word)
BlamesRight terms set keepers other = Unit {0}

-- The one world of what these keepers keep, one for each server of the set.
pub record IsKeptWorld {K : Type 0} (terms : Terms K) (set : Set) (keepers : List K)
    (world : WorldState) : Type 0 where
  pub histories : List History
  pub opened : AreOpenedTo terms set keepers histories
  pub woven : IsWoven set histories [] world

-- how many entries the servers have, and how many cells that aren't 0 the tables of the world
pub record TellsSizes (histories : List History) (world : WorldState) (lines : List ℕ) : Type
    0 where
  pub cells : List (ℕ × ℕ × ℕ)
  pub all : IsPermutation (cells_of world) cells
  pub lines_are : lines ≡ entries_lines histories ++ cells_lines world.set cells

-- An audit: the world of what the keepers keep has all promises, what explains it is an order where
-- the set is accepted, and that is written, with how much the servers keep.
pub record HasAudited {K : Type 0} (terms : Terms K) (set : Set) (keepers : List K)
    (old new : Option (List ℕ)) (explained : Explained) : Type 0 where
  pub world : WorldState
  pub kept : IsKeptWorld terms set keepers world
  pub promises : IsSet set → KeepsPromises set world.list
  pub right : IsExplainedBy world explained
  pub ordered : IsSet set → IsAccepted set → GivesOrder explained
  pub sizes : List ℕ
  pub told : TellsSizes kept.histories world sizes
  pub written : Appends old new (last_lines explained ++ sizes)
