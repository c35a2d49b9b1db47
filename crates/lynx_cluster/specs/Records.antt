-- Where a request is recorded.
use Rattle.std.specs.Prelude.{◌≡◌, ℕ, suc, List, [], ◌∷◌, ◌++◌, Option, None, Some, length}
use Rattle.lynx_cluster.specs.declared.finding.Recorded.{Recorded}
use Rattle.lynx_entry.specs.declared.entry.BegunEntry.{BegunEntry}
use Rattle.lynx_entry.specs.declared.entry.Entry.{Entry}
use Rattle.lynx_entry.specs.declared.entry.Entry.TheVariants as entries
use Rattle.lynx_entry.specs.declared.request.Request.{Request}
use Rattle.lynx_entry.specs.Entry.{History}
use Rattle.lynx_names.specs.declared.chain.ChainId.{ChainId}
use Rattle.lynx_rules.specs.Lawful.{record_of}
use Rattle.lynx_server.specs.Acts.{act_of}
use Rattle.lynx_server.specs.History.{IsLawfulHistory}
use Rattle.lynx_set.specs.Set.{Set}

-- the entry, where a server has one that records the request
abbrev pub recorded_at : ℕ → Option Entry → List Recorded
recorded_at server None = []
recorded_at server (Some entry) = record { server = server; entry = entry } ∷ []

-- what the histories of servers record of it, the first of which is that of this server
abbrev pub recorded_by : Request → ℕ → List History → List Recorded
recorded_by request server [] = []
recorded_by request server (history ∷ histories) =
    recorded_at server (record_of request history) ++ recorded_by request (suc server) histories

-- each is a lawful history of its server, the first of this one
abbrev pub AreLawful : Set → ℕ → List History → Type 0
AreLawful set server [] = Unit {0}
AreLawful set server (history ∷ histories) =
    IsLawfulHistory set server history × AreLawful set (suc server) histories

-- a request of that client and number, whatever it asks for
abbrev pub request_of : ℕ → ℕ → Request
request_of client number =
    record { client = client; number = number; program = 0; args = [] }

-- it is the entry of the chain's first hop in some history of its origin
pub record IsBeginning (set : Set) (chain : ChainId) (entry : Entry) : Type 0 where
  pub history : History
  pub lawful : IsLawfulHistory set chain.origin history
  pub there : act_of chain 0 history ≡ Some entry

-- it is the program of the request by which the chain begins in some history of its origin
pub record IsProgramOf (set : Set) (chain : ChainId) (program : ℕ) : Type 0 where
  pub begun : BegunEntry
  pub begins : IsBeginning set chain (entries.Begun begun)
  pub program_is : begun.request.program ≡ program

-- These are all records of the client's request in some history of each server.
pub record AreRecords (set : Set) (client number : ℕ) (found : List Recorded) : Type 0 where
  pub histories : List History
  pub many : length histories ≡ set.servers
  pub lawful : AreLawful set 0 histories
  pub found_is : found ≡ recorded_by (request_of client number) 0 histories
