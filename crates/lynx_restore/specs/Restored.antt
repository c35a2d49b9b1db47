-- What is restored of copies.
use Rattle.std.specs.Prelude.{◌≡◌, ◌≤◌, ℕ, List, [], ◌∷◌, ◌++◌, drop, length, slice_get, Some, true}
use Rattle.lynx_set.specs.Set.{Set}
use Rattle.lynx_entry.specs.Entry.{History}
use Rattle.lynx_keep.specs.Kept.{KeptState, Terms}
use Rattle.lynx_server.specs.Keeping.{kept_of}
use Rattle.lynx_server.specs.Serving.{Serving}
use Rattle.lynx_store_files.specs.Terms.{StoreTerms}
use Rattle.lynx_weave.specs.Cuts.{IsCut, fronts}
use Rattle.lynx_weave.specs.Servers.{histories_of}
use Rattle.lynx_cluster.specs.Starting.{AreOpened}
use Rattle.lynx_restore.specs.declared.restored.Restored.{Restored}
use Rattle.lynx_restore.specs.declared.restored.RestoredServer.{RestoredServer}
use Rattle.lynx_restore.specs.declared.undone.Undone.{Undone}
use Rattle.lynx_restore.specs.Undone.{undone_in}

-- no count is higher than its history is long
abbrev pub AreWithin : List ℕ → List History → Type 0
AreWithin counts histories =
    (server count : ℕ) (history : History) → slice_get counts server ≡ Some count
    → slice_get histories server ≡ Some history → count ≤ length history

-- what is told of a server of which so many entries are taken
abbrev pub restored_at : {K : Type 0} → Serving K → ℕ → RestoredServer
restored_at here count =
    record { server = here.server; taken = count; of = length here.history }

-- the same of each server
abbrev pub restored_of : {K : Type 0} → List ℕ → List (Serving K) → List RestoredServer
restored_of [] servers = []
restored_of (count ∷ counts) [] = []
restored_of (count ∷ counts) (here ∷ servers) =
    restored_at here count ∷ restored_of counts servers

-- the requests of the entries that are cut off of each server
abbrev pub undone_of : {K : Type 0} → List ℕ → List (Serving K) → List Undone
undone_of [] servers = []
undone_of (count ∷ counts) [] = []
undone_of (count ∷ counts) (here ∷ servers) =
    undone_in here.server (drop count here.history) ++ undone_of counts servers

-- A keeper that kept nothing when it was opened, and keeps just these entries and the cells that
-- they give.
pub record IsFilled {L : Type 0} (terms : Terms L) (set : Set) (opened : L)
    (front : History) (filled : L) : Type 0 where
  pub empty : terms.sound filled → (kept : KeptState) → terms.keeps opened kept
      → kept ≡ kept_of set []
  pub keeps : terms.sound filled → terms.keeps filled (kept_of set front)

-- the store of that server of the set, filled so
pub record IsStored {L : Type 0} (terms : Terms L) (stores : StoreTerms L) (folder : List ℕ)
    (set : Set) (server : ℕ) (front : History) : Type 0 where
  pub opened : L
  pub is_store : stores.store_in folder set server opened
  pub filled : L
  pub fills : IsFilled terms set opened front filled
  pub let_go : stores.closed filled true

-- one for each of these, by number
abbrev pub AreStored : {L : Type 0} → Terms L → StoreTerms L → List ℕ → Set → List History → Type 0
AreStored terms stores folder set fronts =
    (server : ℕ) (front : History) → slice_get fronts server ≡ Some front
    → IsStored terms stores folder set server front

-- The copies are restored: each server of the set opens over its copy, of their histories just so
-- many entries are stored anew as fit together, and that is told.
pub record IsRestored {K L : Type 0} (copied : Terms K) (terms : Terms L) (stores : StoreTerms L)
    (folder : List ℕ) (set : Set) (copies : List K) (restored : Restored) : Type 0 where
  pub servers : List (Serving K)
  pub opened : AreOpened copied set copies servers
  pub counts : List ℕ
  pub cut : IsCut set (histories_of servers) counts
  pub stored : AreStored terms stores folder set (fronts counts (histories_of servers))
  pub told : restored.servers.items ≡ restored_of counts servers
  pub undone : restored.undone.items ≡ undone_of counts servers
