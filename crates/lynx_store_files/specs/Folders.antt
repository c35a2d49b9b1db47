-- The stores of a folder, by server, from server 0 on: those that were found there, and those that
-- are made.
use Rattle.std.specs.Prelude.{◌≡◌, ◌==◌, ℕ, Bool, true, false, if◌then◌else◌, not, List, Option, None, Some, length, position, slice_get}
use Rattle.std.specs.List.{list_any}
use Rattle.lynx_set.specs.Set.{Set}
use Rattle.lynx_store_files.specs.declared.folder.FolderFault.{FolderFault}
use Rattle.lynx_store_files.specs.declared.folder.FolderFault.TheVariants.{Missing}
use Rattle.lynx_store_files.specs.Terms.{StoreTerms}

-- what was found for a server: the keeper of its store, or that there is none
abbrev pub IsFound : {K : Type 0} → StoreTerms K → List ℕ → Set → ℕ → Option K → Type 0
IsFound terms folder set server (Some keeper) = terms.store_in folder set server keeper
IsFound terms folder set server None = terms.lacks folder server

-- what was found for each server
pub record AreFound {K : Type 0} (terms : StoreTerms K) (folder : List ℕ) (set : Set)
    (found : List (Option K)) : Type 0 where
  pub many : length found ≡ set.servers
  pub each : (server : ℕ) (one : Option K) → slice_get found server ≡ Some one
      → IsFound terms folder set server one

-- there is no store
abbrev pub is_lacking : {K : Type 0} → Option K → Bool
is_lacking (Some keeper) = false
is_lacking None = true

-- there is a store that has entries
abbrev pub has_entries : {K : Type 0} → (K → ℕ) → Option K → Bool
has_entries count (Some keeper) = not (count keeper == 0)
has_entries count None = false

-- The first server that has no store, where the store of another has entries: it had one, and lost
-- it.
abbrev pub lost_store : {K : Type 0} → (K → ℕ) → List (Option K) → Option ℕ
lost_store count found =
    if list_any (has_entries count) found then position is_lacking found else None

-- the keeper of a server: the one that was found, or that of a new store, which keeps nothing
abbrev pub IsKeeper : {K : Type 0} → StoreTerms K → List ℕ → Set → ℕ → Option K → K → Type 0
IsKeeper terms folder set server (Some found) keeper = keeper ≡ found
IsKeeper terms folder set server None keeper =
    terms.store_in folder set server keeper × (terms.count_of keeper ≡ 0)

-- the keepers of all servers, of what was found of each
pub record AreKeepers {K : Type 0} (terms : StoreTerms K) (folder : List ℕ) (set : Set)
    (found : List (Option K)) (keepers : List K) : Type 0 where
  pub many : length keepers ≡ set.servers
  pub each : (server : ℕ) (one : Option K) (keeper : K) → slice_get found server ≡ Some one
      → slice_get keepers server ≡ Some keeper → IsKeeper terms folder set server one keeper

-- The keepers of all servers of the set in a folder. None of its stores was lost.
pub record StandIn {K : Type 0} (terms : StoreTerms K) (folder : List ℕ) (set : Set)
    (keepers : List K) : Type 0 where
  pub found : List (Option K)
  pub finds : AreFound terms folder set found
  pub none_lost : lost_store terms.count_of found ≡ None
  pub are : AreKeepers terms folder set found keepers

-- where a store is told to be missing, it is the first that was lost of what was found
abbrev pub TellsLost : {K : Type 0} → StoreTerms K → List ℕ → Set → FolderFault → Type 0
TellsLost {K} terms folder set (Missing server) =
    (found : List (Option K)) × AreFound terms folder set found
    × (lost_store terms.count_of found ≡ Some server)
TellsLost terms folder set fault = Unit {0}
