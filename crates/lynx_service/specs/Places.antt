-- The stores of a folder, while a service opens them.
use Rattle.std.specs.Prelude.{◌≡◌, ℕ, List, Option, length, slice_get, None, Some, IfOk, Result, Ok, Err}
use Rattle.lynx_set.specs.Set.{Set}
use Rattle.lynx_store_files.specs.Folders.{IsFound}
use Rattle.lynx_store_files.specs.Terms.{StoreTerms}
use Rattle.lynx_store.specs.declared.fault.StoreFault.{StoreFault}
use Rattle.lynx_service.specs.Faults.{store_fault}
use Rattle.lynx_service.specs.declared.fault.ServeFault.{ServeFault}
use Rattle.lynx_service.specs.declared.opening.Place.{Place}

-- a place for each server, by number
pub record ArePlaces {K : Type 0} (set : Set) (places : List (Place K)) : Type 0 where
  pub counted : length places ≡ set.servers
  pub each : (server : ℕ) (place : Place K) → slice_get places server ≡ Some place
      → place.server ≡ server

-- it was looked for the store of the place's server
abbrev pub IsLooked : {K : Type 0} → StoreTerms K → List ℕ → Set → Place K → Type 0
IsLooked {K} terms folder set place =
    (found : Result (Option K) StoreFault) × (place.found ≡ Some found)
    × IfOk found (IsFound terms folder set place.server)

-- the place is still that server's, and it was looked for its store
pub record LooksAt {K : Type 0} (terms : StoreTerms K) (folder : List ℕ) (set : Set)
    (old new : Place K) : Type 0 where
  pub server_is : new.server ≡ old.server
  pub looked : IsLooked terms folder set new

-- it was looked for the stores of all servers
pub record AreLooked {K : Type 0} (terms : StoreTerms K) (folder : List ℕ) (set : Set)
    (places : List (Place K)) : Type 0 where
  pub are : ArePlaces set places
  pub each : (server : ℕ) (place : Place K) → slice_get places server ≡ Some place
      → IsLooked terms folder set place

-- what was found at a place is given, or the fault of its server's store
abbrev pub FindsAt : {K : Type 0} → Place K → Result (Option K) ServeFault → Type 0
FindsAt place (Ok one) = place.found ≡ Some (Ok one)
FindsAt {K} place (Err fault) =
    (why : StoreFault) × (place.found ≡ Some (Err why)) × (fault ≡ store_fault place.server why)

-- what was found at each of the places
pub record AreFoundAt {K : Type 0} (places : List (Place K)) (found : List (Option K)) : Type 0
  where
    pub many : length found ≡ length places
    pub each : (server : ℕ) (place : Place K) (one : Option K)
        → slice_get places server ≡ Some place → slice_get found server ≡ Some one
        → place.found ≡ Some (Ok one)
