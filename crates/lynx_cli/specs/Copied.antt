-- What is read of copies of the stores in a folder.
use Rattle.std.specs.Prelude.{◌≡◌, ◌<◌, ◌^◌, ◌⊎◌, ℕ, List, [], length, slice_get, Some}
use Rattle.sqlite.specs.State.{State}
use Rattle.lynx_entry.specs.Entry.{History}
use Rattle.lynx_keep.specs.Kept.{KeptState}
use Rattle.lynx_server.specs.History.{IsLawfulHistory}
use Rattle.lynx_server.specs.Keeping.{kept_of}
use Rattle.lynx_set.specs.Set.{Set}
use Rattle.lynx_store.specs.Premise.{IsUndisturbed}
use Rattle.lynx_store.specs.Stored.{IsKept, IsServerOf, KeepsNothing, Owner, owner_for}
use Rattle.lynx_store_files.specs.Paths.{store_path}

-- A store that was opened over a copy of the one at that path, as its owner and its count are now:
-- what the copy kept for that server of the set, it keeps.
pub record IsCopiedAt {C : Type 0} (copied_from : List ℕ → C → Type 0) (state_of : C → State)
    (set : Set) (server : ℕ) (path : List ℕ) (now : C) (owner : Owner) (count : ℕ)
    : Type 0 where
  pub copy : C
  pub from : copied_from path copy
  pub keeps : IsUndisturbed (state_of now) → (before : ℕ) (kept : KeptState)
      → IsKept (state_of copy) (owner_for server set) before kept
      → IsKept (state_of now) owner count kept

-- The history that a copy of the store at that path kept for the server, with its cells. It is
-- lawful.
pub record IsHistoryAt {C : Type 0} (copied_from : List ℕ → C → Type 0) (state_of : C → State)
    (set : Set) (server : ℕ) (path : List ℕ) (history : History) : Type 0 where
  pub copy : C
  pub from : copied_from path copy
  pub read : C
  pub all : IsUndisturbed (state_of read) → (count : ℕ) (kept : KeptState)
      → IsKept (state_of copy) (owner_for server set) count kept → kept ≡ kept_of set history
  pub lawful : IsLawfulHistory set server history

-- those of the stores of the set's servers in the folder, by number
pub record AreHistoriesIn {C : Type 0} (copied_from : List ℕ → C → Type 0) (state_of : C → State)
    (folder : List ℕ) (set : Set) (histories : List History) : Type 0 where
  pub many : length histories ≡ set.servers
  pub each : (server : ℕ) (history : History) → slice_get histories server ≡ Some history
      → IsHistoryAt copied_from state_of set server (store_path folder server) history

-- The entries that were found in a copy of the store at that path: where it kept any, it is the
-- server's, and kept just these.
pub record IsFoundAt {C : Type 0} (copied_from : List ℕ → C → Type 0) (state_of : C → State)
    (set : Set) (server : ℕ) (path : List ℕ) (found : History) : Type 0 where
  pub copy : C
  pub from : copied_from path copy
  pub read : C
  pub all : IsUndisturbed (state_of read) → (owner : Owner) (count : ℕ) (kept : KeptState)
      → count < 2 ^ 32 → IsKept (state_of copy) owner count kept
      → (owner ≡ owner_for server set) × (kept.entries ≡ found)

-- a copy of the store at that path keeps nothing, for whatever server of whatever set
pub record KeepsNothingAt {C : Type 0} (copied_from : List ℕ → C → Type 0) (state_of : C → State)
    (path : List ℕ) : Type 0 where
  pub copy : C
  pub from : copied_from path copy
  pub read : C
  pub nothing : IsUndisturbed (state_of read) → (server : ℕ) (chains : Set)
      → IsServerOf server chains → KeepsNothing (state_of copy) (owner_for server chains)

-- nothing is found at that path: no copy can be made of a store there, or it keeps nothing
abbrev pub IsLostAt : {C : Type 0} → (List ℕ → C → Type 0) → (List ℕ → Type 0) → (C → State)
    → List ℕ → Type 0
IsLostAt copied_from uncopied state_of path =
    uncopied path ⊎ KeepsNothingAt copied_from state_of path

-- what was found of that server's store: the entries of a copy, or none where it is lost
abbrev pub IsFound : {C : Type 0} → (List ℕ → C → Type 0) → (List ℕ → Type 0) → (C → State) → Set
    → ℕ → List ℕ → History → Type 0
IsFound copied_from uncopied state_of set server path found =
    IsFoundAt copied_from state_of set server path found
    ⊎ (IsLostAt copied_from uncopied state_of path × (found ≡ []))

-- What was found of the stores of the set's servers in the folder, by number. Of one of them at
-- least something was found, and the set is that of its store.
pub record AreFoundIn {C : Type 0} (copied_from : List ℕ → C → Type 0) (uncopied : List ℕ → Type 0)
    (state_of : C → State) (folder : List ℕ) (set : Set) (found : List History) : Type 0 where
  pub many : length found ≡ set.servers
  pub each : (server : ℕ) (entries : History) → slice_get found server ≡ Some entries
      → IsFound copied_from uncopied state_of set server (store_path folder server) entries
  pub source : ℕ
  pub first : History
  pub of_source : IsFoundAt copied_from state_of set source (store_path folder source) first
