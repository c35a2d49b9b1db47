-- What is restored of copies that may be damaged or missing.
use Rattle.std.specs.Prelude.{◌≡◌, ◌++◌, ◌∷◌, [], ℕ, List, Some, length, slice_get}
use Rattle.lynx_set.specs.Set.{Set}
use Rattle.lynx_entry.specs.Entry.{History}
use Rattle.lynx_keep.specs.Kept.{KeptState, Terms}
use Rattle.lynx_rules.specs.Lawful.{IsLawful}
use Rattle.lynx_server.specs.History.{IsLawfulHistory}
use Rattle.lynx_server.specs.Serving.{Serving}
use Rattle.lynx_store_files.specs.Terms.{StoreTerms}
use Rattle.lynx_weave.specs.Cuts.{IsCut, fronts}
use Rattle.lynx_weave.specs.Servers.{histories_of}
use Rattle.lynx_restore.specs.declared.restored.Restored.{Restored}
use Rattle.lynx_restore.specs.declared.restored.RestoredServer.{RestoredServer}
use Rattle.lynx_restore.specs.Restored.{AreStored, restored_of, undone_of}

-- nothing is left behind the front, or the next entry isn't lawful there
abbrev pub EndsLawful : Set → ℕ → History → History → Type 0
EndsLawful set server front [] = Unit {0}
EndsLawful set server front (entry ∷ rest) = IsLawful set server front entry → ⊥

-- the first of the entries that were found, as long as they are lawful at that server
pub record IsLongestLawful (set : Set) (server : ℕ) (found front : History) : Type 0 where
  pub rest : History
  pub found_is : found ≡ front ++ rest
  pub lawful : IsLawfulHistory set server front
  pub ends : EndsLawful set server front rest

-- the server of that number did what was found, as long as that is lawful
pub record IsLongest (set : Set) (server : ℕ) (found : History) (here : Serving KeptState)
    : Type 0 where
  pub server_is : here.server ≡ server
  pub longest : IsLongestLawful set server found here.history

-- one server for each of the set, by number
pub record AreLongest (set : Set) (found : List History) (servers : List (Serving KeptState))
    : Type 0 where
  pub many : length servers ≡ set.servers
  pub each : (server : ℕ) (history : History) (here : Serving KeptState)
      → slice_get found server ≡ Some history → slice_get servers server ≡ Some here
      → IsLongest set server history here

-- how much is restored of servers, with how much was found of each
abbrev pub of_found : List History → List RestoredServer → List RestoredServer
of_found [] told = []
of_found (history ∷ found) [] = []
of_found (history ∷ found) (here ∷ told) =
    record here { of = length history } ∷ of_found found told

-- What was found is restored: of each server the longest lawful front is taken, of these just so
-- many entries are stored anew as fit together, and that is told.
pub record IsRestoredLongest {L : Type 0} (terms : Terms L) (stores : StoreTerms L)
    (folder : List ℕ) (set : Set) (found : List History) (restored : Restored) : Type 0 where
  pub servers : List (Serving KeptState)
  pub longest : AreLongest set found servers
  pub counts : List ℕ
  pub cut : IsCut set (histories_of servers) counts
  pub stored : AreStored terms stores folder set (fronts counts (histories_of servers))
  pub told : restored.servers.items ≡ of_found found (restored_of counts servers)
  pub undone : restored.undone.items ≡ undone_of counts servers
