-- What a close says of a cluster's servers, and of what its sessions were told.
use Rattle.std.specs.Prelude.{◌≡◌, ◌≢◌, ◌<◌, ℕ, All, List, length, map, slice_get, count_by, Some, Err}
use Rattle.lynx_entry.specs.Entry.{History}
use Rattle.lynx_keep.specs.Kept.{Terms}
use Rattle.lynx_server.specs.History.{IsLawfulHistory}
use Rattle.lynx_server.specs.Keeping.{kept_of}
use Rattle.lynx_set.specs.Set.{Set}
use Rattle.lynx_weave.specs.declared.fault.WeaveFault.{WeaveFault}
use Rattle.lynx_weave.specs.declared.fault.WeaveFault.TheVariants as weave
use Rattle.lynx_weave.specs.declared.told.ToldItem.{ToldItem}
use Rattle.lynx_weave.specs.Since.{IsFreshByOld, WeavesSince, answers_begin, history_since, is_fresh_of}
use Rattle.lynx_weave.specs.Weaving.{IsWoven, all_told}
use Rattle.lynx_world.specs.Worlds.{WorldState}
use Rattle.lynx_cluster.specs.declared.fault.CloseFault.{CloseFault}
use Rattle.lynx_cluster.specs.declared.fault.CloseFault.TheVariants.{Mismatch, Told, Stopped, Memory, Absent, Uncounted}
use Rattle.lynx_cluster.specs.Clusters.{ClusterState}
use Rattle.lynx_cluster.specs.Sessions.{SessionState}

-- what each session was told
abbrev pub told_to : List SessionState → List (List ToldItem)
told_to sessions = map (λ session. session.told) sessions

-- this was taken back of that server: a lawful history, just what the keeper keeps
pub record IsTakenBack {K : Type 0} (terms : Terms K) (set : Set) (server : ℕ) (history : History)
    (keeper : K) : Type 0 where
  pub lawful : IsLawfulHistory set server history
  pub kept : terms.sound keeper → terms.keeps keeper (kept_of set history)

-- these were taken back of all servers
pub record AreTakenBack {K : Type 0} (terms : Terms K) (set : Set) (histories : List History)
    (keepers : List K) : Type 0 where
  pub one_history : length histories ≡ set.servers
  pub one_keeper : length keepers ≡ set.servers
  pub each : (server : ℕ) (history : History) (keeper : K)
      → slice_get histories server ≡ Some history →
      slice_get keepers server ≡ Some keeper → IsTakenBack terms set server history keeper

-- as many fresh answers of the server were told as it added entries for begins since the start
abbrev pub IsCounted : List History → List ℕ → List (List ToldItem) → ℕ → Type 0
IsCounted histories starts told server =
    count_by (is_fresh_of server) (all_told told)
    ≡ count_by answers_begin (history_since histories starts server)

-- one of the sessions has that number
pub record HasOne (sessions : List SessionState) (number : ℕ) : Type 0 where
  pub place : ℕ
  pub session : SessionState
  pub there : slice_get sessions place ≡ Some session
  pub number_is : session.number ≡ number

-- A close: a world of just what the keepers keep, in which all that was told stands, each fresh
-- item by an entry since the start, and of each server as many were told as it added. Each session
-- is handed in whose number is below how many were made.
pub record IsClosed {K : Type 0} (terms : Terms K) (cluster : ClusterState)
    (sessions : List SessionState) (made : ℕ) (world : WorldState) (keepers : List K) :
    Type 0 where
  pub histories : List History
  pub taken : AreTakenBack terms cluster.set histories keepers
  pub woven : IsWoven cluster.set histories (told_to sessions) world
  pub none_old : All (All (λ item. IsFreshByOld histories cluster.starts item → ⊥))
      (told_to sessions)
  pub counted : (server : ℕ) → server < cluster.set.servers
      → IsCounted histories cluster.starts (told_to sessions) server
  pub handed_in : (number : ℕ) → number < made → HasOne sessions number

-- what was taken back of all servers does not weave to a world in which what was told stands
pub record IsUnwoven {K : Type 0} (terms : Terms K) (cluster : ClusterState)
    (sessions : List SessionState) (fault : WeaveFault) : Type 0 where
  pub histories : List History
  pub keepers : List K
  pub taken : AreTakenBack terms cluster.set histories keepers
  pub unwoven : WeavesSince cluster.set histories cluster.starts (told_to sessions) (Err fault)

-- another count of fresh answers of that server was told than it added entries for begins
pub record IsMiscounted {K : Type 0} (terms : Terms K) (cluster : ClusterState)
    (sessions : List SessionState) (server : ℕ) : Type 0 where
  pub histories : List History
  pub keepers : List K
  pub taken : AreTakenBack terms cluster.set histories keepers
  pub within : server < cluster.set.servers
  pub other : IsCounted histories cluster.starts (told_to sessions) server → ⊥

-- none of the sessions has that number
abbrev pub HasNone : List SessionState → ℕ → Type 0
HasNone sessions number =
    (place : ℕ) (session : SessionState) → slice_get sessions place ≡ Some session
    → session.number ≢ number

-- That number is the least that none of the sessions has.
pub record IsFirstAbsent (sessions : List SessionState) (number : ℕ) : Type 0 where
  pub absent : HasNone sessions number
  pub before : (other : ℕ) → other < number → HasOne sessions other

-- Why a cluster doesn't close well.
abbrev pub IsUnclosed : {K : Type 0} → Terms K → ClusterState → List SessionState → CloseFault
    → Type 0
IsUnclosed terms cluster sessions (Mismatch server place) =
    IsUnwoven terms cluster sessions (weave.Mismatch server place)
IsUnclosed terms cluster sessions (Told session place) =
    IsUnwoven terms cluster sessions (weave.Told session place)
IsUnclosed terms cluster sessions (Stopped server) = server < cluster.set.servers
IsUnclosed terms cluster sessions Memory = Unit {0}
IsUnclosed terms cluster sessions (Absent number) = IsFirstAbsent sessions number
IsUnclosed terms cluster sessions (Uncounted server) = IsMiscounted terms cluster sessions server
