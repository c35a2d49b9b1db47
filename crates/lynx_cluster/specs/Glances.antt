-- What is seen of a running server by whoever has no session with it.
use Rattle.std.specs.Prelude.{◌≡◌, ℕ, ◌-◌, length, drop, not, take}
use Rattle.lynx_entry.specs.Entry.{History}
use Rattle.lynx_codec.specs.declared.item.Looked.{Looked}
use Rattle.lynx_names.specs.declared.chain.ChainId.{ChainId}
use Rattle.lynx_rules.specs.Tables.{clock_of}
use Rattle.lynx_server.specs.Acts.{act_of}
use Rattle.lynx_server.specs.History.{IsLawfulHistory}
use Rattle.lynx_server.specs.Serving.{Serving}
use Rattle.lynx_set.specs.Set.{Set}
use Rattle.lynx_cluster.specs.declared.glancing.Glance.{Glance}
use Rattle.lynx_cluster.specs.Looks.{looked_at}

-- how much it did, when it did the last of it, how much it holds, and whether it runs
abbrev pub glance_of : {K : Type 0} → Serving K → Glance
glance_of here = record {
  entries = length here.history;
  clock = clock_of here.history;
  held = length here.held;
  is_running = not here.is_stopped;
}

-- the last entries of a history, so many at most
abbrev pub last_of : ℕ → History → History
last_of most history = drop (length history - most) history

-- So it was at some moment: there is a history of that server with so many entries, the last of
-- which has that stamp.
pub record IsSeen (set : Set) (server : ℕ) (glance : Glance) : Type 0 where
  pub history : History
  pub lawful : IsLawfulHistory set server history
  pub entries : glance.entries ≡ length history
  pub clock : glance.clock ≡ clock_of history

-- These are the entries of some history of that server from a place on, so many at most.
pub record AreEntriesFrom (set : Set) (server from most : ℕ) (entries : History) : Type 0 where
  pub history : History
  pub lawful : IsLawfulHistory set server history
  pub entries_are : entries ≡ take most (drop from history)

-- These are the last entries of some history of that server, so many at most.
pub record AreLastEntries (set : Set) (server most : ℕ) (entries : History) : Type 0 where
  pub history : History
  pub lawful : IsLawfulHistory set server history
  pub entries_are : entries ≡ last_of most history

-- That is what there is of the hop in some history of that server.
pub record IsRecalled (set : Set) (server : ℕ) (chain : ChainId) (hop : ℕ) (looked : Looked) :
    Type 0 where
  pub history : History
  pub lawful : IsLawfulHistory set server history
  pub looked_is : looked ≡ looked_at (act_of chain hop history)
