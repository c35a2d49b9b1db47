-- What commands tell of stores that nobody serves, and with which status.
use Rattle.std.specs.Prelude.{◌≡◌, ◌++◌, ℕ, List, [], Option}
use Rattle.std.specs.Io.KnownBytes.{Appends}
use Rattle.sqlite.specs.State.{State}
use Rattle.lynx_set.specs.Set.{Set}
use Rattle.lynx_keep.specs.Kept.{Terms}
use Rattle.lynx_order.specs.declared.explained.Explained.{Explained}
use Rattle.lynx_order.specs.declared.explained.Explained.TheVariants.{Order, Cycle}
use Rattle.lynx_store.specs.Premise.{IsUndisturbed}
use Rattle.lynx_show.specs.Listing.{Lists}
use Rattle.lynx_show.specs.declared.detail.Detail.{Detail}
use Rattle.lynx_audit.specs.Audits.{HasAudited, TellsSizes}
use Rattle.lynx_audit.specs.Owing.{TellsOwed, owing_lines}
use Rattle.lynx_report.specs.Owed.{AreTheOwed}
use Rattle.lynx_report.specs.declared.owed.OwedHop.{OwedHop}
use Rattle.lynx_service.specs.Services.{IsExplainedBy, last_lines}
use Rattle.lynx_cli.specs.Copied.{AreHistoriesIn}
use Rattle.lynx_entry.specs.Entry.{History}
use Rattle.lynx_graph.specs.Acceptance.{IsAccepted}
use Rattle.lynx_order.specs.Explained.{GivesOrder}
use Rattle.lynx_promises.specs.Promises.{KeepsPromises}
use Rattle.lynx_set.specs.Rules.{IsSet}
use Rattle.lynx_weave.specs.Weaving.{IsWoven}
use Rattle.lynx_world.specs.Worlds.{WorldState}

-- of an audit: 0 where an order explains the stores, 1 where a cycle does
abbrev pub status_of_explained : Explained → ℕ
status_of_explained (Order chains) = 0
status_of_explained (Cycle chains) = 1

-- what these keepers keep was audited, and the status says whether an order explains it
pub record HasAuditedKeepers {K : Type 0} (terms : Terms K) (set : Set) (keepers : List K)
    (old new : Option (List ℕ)) (status : ℕ) : Type 0 where
  pub explained : Explained
  pub audited : HasAudited terms set keepers old new explained
  pub status_is : status ≡ status_of_explained explained

-- The stores in the folder were audited: the one world of their histories has all promises, what
-- explains it is an order where the set is accepted, and that is told, with how much they keep. The
-- status says whether it is an order.
pub record HasAuditedFolder {C : Type 0} (copied_from : List ℕ → C → Type 0) (state_of : C → State)
    (folder : List ℕ) (old new : Option (List ℕ)) (status : ℕ) : Type 0 where
  pub set : Set
  pub histories : List History
  pub are : AreHistoriesIn copied_from state_of folder set histories
  pub world : WorldState
  pub woven : IsWoven set histories [] world
  pub promises : IsSet set → KeepsPromises set world.list
  pub explained : Explained
  pub right : IsExplainedBy world explained
  pub ordered : IsSet set → IsAccepted set → GivesOrder explained
  pub sizes : List ℕ
  pub told : TellsSizes histories world sizes
  pub written : Appends old new (last_lines explained ++ sizes)
  pub status_is : status ≡ status_of_explained explained

-- what is owed by what these keepers keep was listed, and the status is 0
pub record HasListedOwed {K : Type 0} (terms : Terms K) (set : Set) (keepers : List K)
    (old new : Option (List ℕ)) (status : ℕ) : Type 0 where
  pub told : TellsOwed terms set keepers old new
  pub status_is : status ≡ 0

-- what the one world of the histories of the stores in the folder owes was listed, and the status
-- is 0
pub record HasListedOwedIn {C : Type 0} (copied_from : List ℕ → C → Type 0) (state_of : C → State)
    (folder : List ℕ) (old new : Option (List ℕ)) (status : ℕ) : Type 0 where
  pub set : Set
  pub histories : List History
  pub are : AreHistoriesIn copied_from state_of folder set histories
  pub world : WorldState
  pub woven : IsWoven set histories [] world
  pub owed : List OwedHop
  pub all : AreTheOwed set world.list owed
  pub written : Appends old new (owing_lines set world.list owed)
  pub status_is : status ≡ 0

-- a copy of the store at that path was read, what it holds was listed, and the status is 0
pub record HasShown {C : Type 0} (detail : Detail) (copied_from : List ℕ → C → Type 0)
    (state_of : C → State) (path : List ℕ) (old new : Option (List ℕ)) (status : ℕ) : Type 0 where
  pub copy : C
  pub from : copied_from path copy
  pub read : C
  pub lists : IsUndisturbed (state_of read) → Lists detail (state_of read) old new
  pub status_is : status ≡ 0
