-- Which messages servers don't owe at a start.
use Rattle.std.specs.Prelude.{◌≡◌, ◌⊎◌, ℕ, suc, true, List, length, IsSome, Some, slice_get}
use Rattle.lynx_entry.specs.declared.entry.Entry.{Entry}
use Rattle.lynx_entry.specs.Entry.{History}
use Rattle.lynx_names.specs.declared.chain.ChainId.{ChainId}
use Rattle.lynx_server.specs.Acts.{act_of}
use Rattle.lynx_server.specs.Owed.{is_acknowledged}
use Rattle.lynx_server.specs.Serving.{Serving}

-- the hop of the chain has its entry in one of these histories
pub record IsDoneIn (histories : List History) (chain : ChainId) (hop : ℕ) : Type 0 where
  pub server : ℕ
  pub history : History
  pub there : slice_get histories server ≡ Some history
  pub done : IsSome (act_of chain hop history)

-- the entry at that place is of a hop whose next has its entry in one of these histories
pub record SendsDone (histories : List History) (history : History) (place : ℕ) : Type 0 where
  pub chain : ChainId
  pub hop : ℕ
  pub entry : Entry
  pub at : slice_get history place ≡ Some entry
  pub is : act_of chain hop history ≡ Some entry
  pub done : IsDoneIn histories chain (suc hop)

-- But for its marks it is the same server, and what was marked needs no message any more.
pub record IsSettled {K : Type 0} (histories : List History) (old new : Serving K)
    : Type 0 where
  pub else_same : new ≡ record old { acknowledged = new.acknowledged }
  pub marked : (place : ℕ) → is_acknowledged new.acknowledged place ≡ true
      → (is_acknowledged old.acknowledged place ≡ true) ⊎ SendsDone histories old.history place

-- so it is with each server
pub record AreSettled {K : Type 0} (histories : List History) (old new : List (Serving K))
    : Type 0 where
  pub many : length new ≡ length old
  pub each : (server : ℕ) (here there : Serving K) → slice_get old server ≡ Some here
      → slice_get new server ≡ Some there → IsSettled histories here there
