-- Why a service doesn't begin, or doesn't end well.
use Rattle.std.specs.Prelude.{◌≡◌, ◌⊎◌, ℕ, List, Option, None, Some}
use Rattle.lynx_cluster.specs.declared.fault.CloseFault.{CloseFault}
use Rattle.lynx_cluster.specs.Closing.{IsUnclosed}
use Rattle.lynx_cluster.specs.Clusters.{ClusterState}
use Rattle.lynx_cluster.specs.Sessions.{SessionState}
use Rattle.lynx_cluster.specs.Starting.{AreOpened, IsUnopenedAt, Starts}
use Rattle.lynx_keep.specs.Kept.{Terms}
use Rattle.lynx_server.specs.declared.fault.OpenFault.TheVariants as opening
use Rattle.lynx_server.specs.Serving.{Serving}
use Rattle.lynx_set.specs.Set.{Set}
use Rattle.lynx_store_files.specs.Folders.{AreFound, StandIn, lost_store}
use Rattle.lynx_store_files.specs.Terms.{StoreTerms}
use Rattle.lynx_weave.specs.Senders.{AreAllSent}
use Rattle.lynx_weave.specs.Servers.{histories_of}
use Rattle.lynx_weave.specs.Weaving.{IsUnsentAt}
use Rattle.lynx_service.specs.declared.fault.CloseWord.{CloseWord}
use Rattle.lynx_service.specs.declared.fault.CloseWord.TheVariants.{Mismatch}
use Rattle.lynx_service.specs.declared.fault.Damage.{Damage}
use Rattle.lynx_service.specs.declared.fault.Damage.TheVariants.{At, Missing, Somewhere}
use Rattle.lynx_service.specs.declared.fault.ServeFault.{ServeFault}
use Rattle.lynx_service.specs.declared.fault.ServeFault.TheVariants.{Close, Store}
use Rattle.lynx_service.specs.declared.fault.StoreWord.{StoreWord}
use Rattle.lynx_service.specs.declared.fault.StoreWord.TheVariants.{Damaged}
use Rattle.lynx_service.specs.Faults.{close_fault}
use Rattle.lynx_service.specs.Services.{AppendsListening}

-- The stores of the folder were looked for, and that of this server is the first that was lost.
abbrev pub IsMissing : {K : Type 0} → StoreTerms K → List ℕ → Set → ℕ → Type 0
IsMissing {K} stores folder set server =
    (found : List (Option K)) × AreFound stores folder set found
    × (lost_store stores.count_of found ≡ Some server)

-- Keepers of all servers stand in the folder, and what that of this server keeps is damaged there.
abbrev pub IsDamagedAt : {K : Type 0} → Terms K → StoreTerms K → List ℕ → Set → ℕ → ℕ → Type 0
IsDamagedAt {K} terms stores folder set server place =
    (keepers : List K) × StandIn stores folder set keepers
    × IsUnopenedAt terms set keepers server (opening.Damaged place)

-- The servers were opened over their keepers in the folder, and nobody sent what this entry ran on.
pub record IsApartAt {K : Type 0} (terms : Terms K) (stores : StoreTerms K) (folder : List ℕ)
    (set : Set) (server place : ℕ) : Type 0 where
  pub keepers : List K
  pub stand : StandIn stores folder set keepers
  pub servers : List (Serving K)
  pub opened : AreOpened terms set keepers servers
  pub unsent : IsUnsentAt set (histories_of servers) server place

-- what damage of a server's store says of the folder
abbrev pub IsDamageOf : {K : Type 0} → Terms K → StoreTerms K → List ℕ → Set → ℕ → Damage → Type 0
IsDamageOf terms stores folder set server Missing = IsMissing stores folder set server
IsDamageOf terms stores folder set server (At place) =
    IsDamagedAt terms stores folder set server place
IsDamageOf terms stores folder set server Somewhere = Unit {0}

-- what is wrong with a server's store
abbrev pub IsWordOf : {K : Type 0} → Terms K → StoreTerms K → List ℕ → Set → ℕ → StoreWord → Type 0
IsWordOf terms stores folder set server (Damaged damage) =
    IsDamageOf terms stores folder set server damage
IsWordOf terms stores folder set server word = Unit {0}

-- what is wrong with what the servers did: never what is told of clients
abbrev pub IsApart : {K : Type 0} → Terms K → StoreTerms K → List ℕ → Set → CloseWord → Type 0
IsApart terms stores folder set (Mismatch server place) =
    IsApartAt terms stores folder set server place
IsApart terms stores folder set word = ⊥

-- Why the servers of a set aren't opened over the stores of a folder: a store that is missing is
-- the first that was lost; one that is damaged at a place has an unlawful entry, or other cells,
-- there; a mismatch is an entry whose message nobody sent. Of files, ports and memory nothing is
-- said.
abbrev pub FailsToOpen : {K : Type 0} → Terms K → StoreTerms K → List ℕ → Set → ServeFault → Type 0
FailsToOpen terms stores folder set (Store server word) =
    IsWordOf terms stores folder set server word
FailsToOpen terms stores folder set (Close word) = IsApart terms stores folder set word
FailsToOpen terms stores folder set fault = Unit {0}

-- the fault tells nothing of what stores keep, nor of what servers did
abbrev pub IsPlainWord : StoreWord → Type 0
IsPlainWord (Damaged Missing) = ⊥
IsPlainWord (Damaged (At place)) = ⊥
IsPlainWord word = Unit {0}

abbrev pub IsPlain : ServeFault → Type 0
IsPlain (Store server word) = IsPlainWord word
IsPlain (Close word) = ⊥
IsPlain fault = Unit {0}

-- A cluster of servers that were opened over the stores of that folder doesn't close well, behind
-- what clients were told first.
pub record FailsToClose {K : Type 0} (terms : Terms K) (stores : StoreTerms K) (folder : List ℕ)
    (set : Set) (fault : ServeFault) : Type 0 where
  pub before : List K
  pub stood : StandIn stores folder set before
  pub servers : List (Serving K)
  pub opened : AreOpened terms set before servers
  pub sent : AreAllSent set (histories_of servers)
  pub cluster : ClusterState
  pub started : Starts set servers cluster
  pub sessions : List SessionState
  pub why : CloseFault
  pub unclosed : IsUnclosed terms cluster sessions why
  pub fault_is : fault ≡ close_fault why

-- Why a service didn't begin, and then nothing is written; or didn't end well behind that it is
-- listened to; or a fault that tells nothing of what stores keep, nor of what servers did.
abbrev pub FailsToServe : {K : Type 0} → Terms K → StoreTerms K → List ℕ → Set → Option (List ℕ)
    → Option (List ℕ) → ServeFault → Type 0
FailsToServe terms stores folder set old new fault =
    (FailsToOpen terms stores folder set fault × (new ≡ old))
    ⊎ ((FailsToClose terms stores folder set fault × AppendsListening old new) ⊎ IsPlain fault)
