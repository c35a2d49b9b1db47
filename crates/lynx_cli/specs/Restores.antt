-- What is restored of copies of the stores in a folder.
use Rattle.std.specs.Prelude.{◌≡◌, ◌+◌, ◌++◌, ◌∷◌, [], ℕ, Bool, true, false, List, Option, codes, length}
use Rattle.std.specs.Io.KnownBytes.{Appends}
use Rattle.sqlite.specs.State.{State}
use Rattle.lynx_entry.specs.Entry.{History}
use Rattle.lynx_keep.specs.Kept.{Terms}
use Rattle.lynx_restore.specs.Lines.{restored_lines}
use Rattle.lynx_restore.specs.Longest.{IsRestoredLongest}
use Rattle.lynx_restore.specs.Restored.{AreStored}
use Rattle.lynx_restore.specs.declared.restored.Restored.{Restored}
use Rattle.lynx_restore.specs.declared.restored.RestoredServer.{RestoredServer}
use Rattle.lynx_set.specs.Set.{Set}
use Rattle.lynx_store_files.specs.Terms.{StoreTerms}
use Rattle.lynx_weave.specs.Cuts.{IsCut, fronts}
use Rattle.lynx_cli.specs.Copied.{AreFoundIn, AreHistoriesIn}

-- the folder in which stores are made for this one, until they are moved to it
abbrev pub room_of : List ℕ → List ℕ
room_of folder = folder ++ codes "/restore.new"

-- what is told of servers from that number on: how many of their entries are taken
abbrev pub taken_from : ℕ → List ℕ → List History → List RestoredServer
taken_from server [] histories = []
taken_from server (count ∷ counts) [] = []
taken_from server (count ∷ counts) (history ∷ histories) =
    record { server = server; taken = count; of = length history }
    ∷ taken_from (server + 1) counts histories

-- The stores in a folder are restored to another one: as much of their histories as fits together
-- is stored, and how much that is of each server is told.
pub record RestoresHistories {C L : Type 0} (copied_from : List ℕ → C → Type 0)
    (state_of : C → State) (terms : Terms L) (stores : StoreTerms L) (from folder : List ℕ)
    (restored : Restored) : Type 0 where
  pub set : Set
  pub histories : List History
  pub are : AreHistoriesIn copied_from state_of from set histories
  pub counts : List ℕ
  pub cut : IsCut set histories counts
  pub stored : AreStored terms stores (room_of folder) set (fronts counts histories)
  pub told : restored.servers.items ≡ taken_from 0 counts histories

-- What is found of the stores in a folder is restored to another one.
pub record RestoresFound {C L : Type 0} (copied_from : List ℕ → C → Type 0)
    (uncopied : List ℕ → Type 0) (state_of : C → State) (terms : Terms L) (stores : StoreTerms L)
    (from folder : List ℕ) (restored : Restored) : Type 0 where
  pub set : Set
  pub found : List History
  pub are : AreFoundIn copied_from uncopied state_of from set found
  pub longest : IsRestoredLongest terms stores (room_of folder) set found restored

-- how much was restored of each server was told, and the status is 0
pub record HasToldRestored (restored : List RestoredServer) (old new : Option (List ℕ))
    (status : ℕ) : Type 0 where
  pub written : Appends old new (restored_lines restored)
  pub status_is : status ≡ 0

-- what is restored: stores that are whole, or what is found of them where that was asked for
abbrev pub RestoresBy : {C L : Type 0} → (List ℕ → C → Type 0) → (List ℕ → Type 0) → (C → State)
    → Terms L → StoreTerms L → List ℕ → List ℕ → Bool → Restored → Type 0
RestoresBy copied_from uncopied state_of terms stores from folder false restored =
    RestoresHistories copied_from state_of terms stores from folder restored
RestoresBy copied_from uncopied state_of terms stores from folder true restored =
    RestoresFound copied_from uncopied state_of terms stores from folder restored

-- the stores in a folder were restored to another one, the longest of each or only whole ones, and
-- that was told
pub record HasRestored {C L : Type 0} (copied_from : List ℕ → C → Type 0)
    (uncopied : List ℕ → Type 0) (state_of : C → State) (terms : Terms L) (stores : StoreTerms L)
    (from folder : List ℕ) (longest : Bool) (old new : Option (List ℕ)) (status : ℕ)
    : Type 0 where
  pub restored : Restored
  pub restores : RestoresBy copied_from uncopied state_of terms stores from folder longest restored
  pub told : HasToldRestored restored.servers.items old new status
