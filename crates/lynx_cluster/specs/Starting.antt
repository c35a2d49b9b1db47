-- How a cluster starts, and why not.
use Rattle.std.specs.Prelude.{◌≡◌, ◌≢◌, ℕ, List, length, map, slice_get, Some, Ok, Err}
use Rattle.lynx_keep.specs.Kept.{Terms}
use Rattle.lynx_server.specs.declared.fault.OpenFault.{OpenFault}
use Rattle.lynx_server.specs.declared.fault.OpenFault.TheVariants as faults
use Rattle.lynx_server.specs.Opening.{Opens}
use Rattle.lynx_server.specs.Serving.{Serving}
use Rattle.lynx_set.specs.Set.{Set}
use Rattle.lynx_cluster.specs.declared.fault.StartFault.{StartFault}
use Rattle.lynx_cluster.specs.declared.fault.StartFault.TheVariants.{OtherCount, Open, NoThread, Memory}
use Rattle.lynx_cluster.specs.Clusters.{ClusterState}

-- each server of the set was opened over its keeper
pub record AreOpened {K : Type 0} (terms : Terms K) (set : Set) (keepers : List K)
    (servers : List (Serving K)) : Type 0 where
  pub one_keeper : length keepers ≡ set.servers
  pub one_server : length servers ≡ set.servers
  pub each : (server : ℕ) (keeper : K) (here : Serving K) → slice_get keepers server ≡ Some keeper
      → slice_get servers server ≡ Some here → Opens terms set server keeper (Ok here)

-- how long the history of a server is that starts
abbrev pub start_of : {K : Type 0} → Serving K → ℕ
start_of here = length here.history

-- a cluster of that set and these servers
pub record Starts {K : Type 0} (set : Set) (servers : List (Serving K))
    (cluster : ClusterState) : Type 0 where
  pub set_is : cluster.set ≡ set
  pub starts_are : cluster.starts ≡ map start_of servers

-- A cluster of that set, each server of which was opened over its keeper.
pub record IsStarted {K : Type 0} (terms : Terms K) (set : Set) (keepers : List K)
    (cluster : ClusterState) : Type 0 where
  pub servers : List (Serving K)
  pub opened : AreOpened terms set keepers servers
  pub starts : Starts set servers cluster

-- that server didn't open over its keeper, for another reason than want of memory
pub record IsUnopenedAt {K : Type 0} (terms : Terms K) (set : Set) (keepers : List K) (server : ℕ)
    (fault : OpenFault) : Type 0 where
  pub keeper : K
  pub there : slice_get keepers server ≡ Some keeper
  pub opens : Opens terms set server keeper (Err fault)
  pub no_want : fault ≢ faults.Memory

-- Why a cluster doesn't start: there is another count of keepers, where that is the fault and
-- nowhere else; or that server didn't open.
abbrev pub IsUnstarted : {K : Type 0} → Terms K → Set → List K → StartFault → Type 0
IsUnstarted terms set keepers OtherCount = length keepers ≢ set.servers
IsUnstarted terms set keepers (Open server fault) =
    (length keepers ≡ set.servers) × IsUnopenedAt terms set keepers server fault
IsUnstarted terms set keepers NoThread = length keepers ≡ set.servers
IsUnstarted terms set keepers Memory = length keepers ≡ set.servers
