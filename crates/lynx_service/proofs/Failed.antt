-- Why a service fails.
use Rattle.std.proofs.Common.{◌≡◌, ◌∙◌, ℕ, List, Option, None, Some, Ok, Err, ap, subst, sym, inl, inr}
use Rattle.std.specs.Prelude.{IfErr, IsErrAnd, Result}
use Rattle.lynx_cluster.specs.declared.fault.CloseFault.{CloseFault}
use Rattle.lynx_cluster.specs.declared.fault.StartFault.{StartFault}
use Rattle.lynx_cluster.specs.declared.fault.StartFault.TheVariants as start
use Rattle.lynx_cluster.specs.Closing.{IsUnclosed}
use Rattle.lynx_cluster.specs.Clusters.{ClusterState}
use Rattle.lynx_cluster.specs.inner.Opening.{IsLate}
use Rattle.lynx_cluster.specs.Sessions.{SessionState}
use Rattle.lynx_cluster.specs.Starting.{AreOpened, IsUnstarted, Starts}
use Rattle.lynx_keep.specs.Kept.{Terms}
use Rattle.lynx_server.specs.declared.fault.OpenFault.TheVariants as opening
use Rattle.lynx_server.specs.Serving.{Serving}
use Rattle.lynx_set.specs.Set.{Set}
use Rattle.lynx_store.specs.declared.fault.StoreFault.{StoreFault}
use Rattle.lynx_store.specs.declared.fault.StoreFault.TheVariants as store
use Rattle.lynx_store_files.specs.declared.folder.FolderFault.{FolderFault}
use Rattle.lynx_store_files.specs.declared.folder.FolderFault.TheVariants as folders
use Rattle.lynx_store_files.specs.Folders.{AreFound, StandIn, TellsLost, lost_store}
use Rattle.lynx_store_files.specs.Terms.{StoreTerms}
use Rattle.lynx_weave.specs.declared.fault.WeaveFault.{WeaveFault}
use Rattle.lynx_weave.specs.declared.fault.WeaveFault.TheVariants as weave
use Rattle.lynx_weave.specs.Senders.{AreAllSent, FindsSenders}
use Rattle.lynx_weave.specs.Servers.{histories_of}
use Rattle.lynx_weave.specs.Weaving.{IsUnsentAt}
use Rattle.lynx_service.specs.declared.fault.CloseWord.{CloseWord}
use Rattle.lynx_service.specs.declared.fault.CopyWord.{CopyWord}
use Rattle.lynx_service.specs.declared.fault.Damage.TheVariants.{At, Missing, Somewhere}
use Rattle.lynx_service.specs.declared.fault.ServeFault.{ServeFault}
use Rattle.lynx_service.specs.declared.fault.ServeFault.TheVariants as serve
use Rattle.lynx_service.specs.declared.fault.StoreWord.TheVariants as words
use Rattle.lynx_service.specs.Failures.{FailsToOpen, FailsToServe, IsPlain}
use Rattle.lynx_service.specs.Faults.{apart_fault, close_fault, folder_fault, missing_fault, start_fault, store_fault}
use Rattle.lynx_service.specs.Services.{AppendsListening}

-- what holds of a fault that is passed on holds of the result
pub passed_on : {A E : Type 0} (P : E → Type 0) (result : Result A E) (fault : E) → IsErrAnd result (λ told. told ≡ fault) → P fault → IfErr result P
passed_on P (Ok value) fault is holds = tt
passed_on P (Err told) fault is holds = subst P (sym is) holds

-- of a plain fault nothing is said
pub plain_fails : {K : Type 0} (terms : Terms K) (stores : StoreTerms K) (folder : List ℕ) (set : Set) (fault : ServeFault) → IsPlain fault → FailsToOpen terms stores folder set fault
plain_fails terms stores folder set (serve.Store server (words.Damaged Missing)) is = absurd is
plain_fails terms stores folder set (serve.Store server (words.Damaged (At place))) is = absurd is
plain_fails terms stores folder set (serve.Store server (words.Damaged Somewhere)) is = tt
plain_fails terms stores folder set (serve.Store server words.OtherSet) is = tt
plain_fails terms stores folder set (serve.Store server words.OtherVersion) is = tt
plain_fails terms stores folder set (serve.Store server words.Store) is = tt
plain_fails terms stores folder set (serve.Store server words.Gone) is = tt
plain_fails terms stores folder set (serve.Close word) is = absurd is
plain_fails terms stores folder set (serve.Copy server word) is = tt
plain_fails terms stores folder set serve.SameFolder is = tt
plain_fails terms stores folder set serve.Listen is = tt
plain_fails terms stores folder set serve.ListenStatus is = tt
plain_fails terms stores folder set serve.Notice is = tt
plain_fails terms stores folder set serve.NoThread is = tt
plain_fails terms stores folder set serve.Write is = tt
plain_fails terms stores folder set serve.Memory is = tt

-- the fault of a store's file is plain
pub store_plain : (server : ℕ) (why : StoreFault) → IsPlain (store_fault server why)
store_plain server store.OtherSet = tt
store_plain server store.OtherVersion = tt
store_plain server store.Damaged = tt
store_plain server store.Store = tt
store_plain server store.Memory = tt

-- what is told of a folder
pub folder_fails : {K : Type 0} (terms : Terms K) (stores : StoreTerms K) (folder : List ℕ) (set : Set) (why : FolderFault) → TellsLost stores folder set why →
    FailsToOpen terms stores folder set (folder_fault why)
folder_fails terms stores folder set (folders.Store server why) told = plain_fails terms stores folder set (store_fault server why) (store_plain server why)
folder_fails terms stores folder set (folders.Missing server) told = told
folder_fails terms stores folder set folders.Memory told = tt

-- what is told of a store that was lost
pub lost_fails : {K : Type 0} (terms : Terms K) (stores : StoreTerms K) (folder : List ℕ) (set : Set) (found seen : List (Option K)) (fault : ServeFault) → AreFound stores folder set found → seen ≡ found →
    (server : ℕ) × (lost_store stores.count_of seen ≡ Some server) × (fault ≡ missing_fault server) → FailsToOpen terms stores folder set fault
lost_fails {K} terms stores folder set found seen fault finds same lost =
    let is : lost_store stores.count_of found ≡ Some lost.0 = subst (λ (xs : List (Option K)). lost_store stores.count_of xs ≡ Some lost.0) same lost.1 in
    subst (FailsToOpen terms stores folder set) (sym lost.2) (found, finds, is)

-- what is told of servers that aren't opened over their keepers
pub unstarted_fails : {K : Type 0} (terms : Terms K) (stores : StoreTerms K) (folder : List ℕ) (set : Set) (keepers : List K) (why : StartFault) → StandIn stores folder set keepers →
    IsUnstarted terms set keepers why → FailsToOpen terms stores folder set (start_fault why)
unstarted_fails terms stores folder set keepers (start.Open server (opening.Damaged place)) stand un = (keepers, stand, un.1)
unstarted_fails terms stores folder set keepers (start.Open server opening.Store) stand un = tt
unstarted_fails terms stores folder set keepers (start.Open server opening.Memory) stand un = tt
unstarted_fails terms stores folder set keepers start.OtherCount stand un = tt
unstarted_fails terms stores folder set keepers start.NoThread stand un = tt
unstarted_fails terms stores folder set keepers start.Memory stand un = tt

-- what is told of opened servers that don't fit together
pub apart_fails : {K : Type 0} (terms : Terms K) (stores : StoreTerms K) (folder : List ℕ) (set opened_set : Set) (keepers : List K) (servers : List (Serving K)) (why : WeaveFault) → opened_set ≡ set →
    StandIn stores folder set keepers → AreOpened terms set keepers servers → FindsSenders opened_set (histories_of servers) (Err why) → FailsToOpen terms stores folder set (apart_fault why)
apart_fails terms stores folder set opened_set keepers servers (weave.Mismatch server place) same stand opened unsent = record {
  keepers = keepers;
  stand = stand;
  servers = servers;
  opened = opened;
  unsent = subst (λ s. IsUnsentAt s (histories_of servers) server place) same unsent;
}
apart_fails terms stores folder set opened_set keepers servers (weave.Told session place) same stand opened never = absurd never
apart_fails terms stores folder set opened_set keepers servers weave.Memory same stand opened none = tt

-- what holds of an error holds of the fault in it
pub of_err : {A E : Type 0} (P : E → Type 0) (result : Result A E) (fault : E) → result ≡ Err fault → IfErr result P → P fault
of_err P result fault is holds = subst (λ r. IfErr r P) is holds

-- a fault that comes once all servers were opened is plain
pub late_plain : (why : StartFault) → IsLate why → IsPlain (start_fault why)
late_plain (start.Open server fault) never = absurd never
late_plain start.OtherCount never = absurd never
late_plain start.NoThread late = tt
late_plain start.Memory late = tt

-- a cluster of opened servers that was halted as it was, and didn't close well behind what was written first
pub closes_ill : {K : Type 0} (terms : Terms K) (stores : StoreTerms K) (folder : List ℕ) (set opened_set : Set) (before : List K) (servers : List (Serving K)) (cluster halted : ClusterState) (sessions : List SessionState)
    (why : CloseFault) (old new : Option (List ℕ)) (fault : ServeFault) →
    opened_set ≡ set → AreOpened terms set before servers → StandIn stores folder set before → AreAllSent opened_set (histories_of servers) → Starts opened_set servers cluster → halted ≡ cluster →
    IsUnclosed terms halted sessions why → fault ≡ close_fault why → AppendsListening old new → FailsToServe terms stores folder set old new fault
closes_ill terms stores folder set opened_set before servers cluster halted sessions why old new fault same opened stood sent began still unclosed fault_is first = inr (inl (
  record {
    before = before;
    stood = stood;
    servers = servers;
    opened = opened;
    sent = subst (λ s. AreAllSent s (histories_of servers)) same sent;
    cluster = cluster;
    started = subst (λ s. Starts s servers cluster) same began;
    sessions = sessions;
    why = why;
    unclosed = subst (λ state. IsUnclosed terms state sessions why) still unclosed;
    fault_is = fault_is;
  },
  first,
))
