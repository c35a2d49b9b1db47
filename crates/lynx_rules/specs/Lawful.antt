-- When an entry may come next in a server's history.
use Rattle.std.specs.Prelude.{◌≡◌, ℕ, ◌+◌, ◌<◌, ◌==◌, ◌&&◌, Bool, false, max, List, [], length, Option, Some, None, IsTrue, IsNone, Ok, Err, find, option_map, unwrap_or}
use Rattle.lynx_names.specs.declared.limits.TheConstants.{MAX_ENTRIES, STAMP_LIMIT}
use Rattle.lynx_names.specs.declared.chain.ChainId.{ChainId}
use Rattle.lynx_cells.specs.Database.{Database}
use Rattle.lynx_set.specs.Set.{Set}
use Rattle.lynx_hops.specs.Meaning.{meaning}
use Rattle.lynx_entry.specs.declared.entry.BegunEntry.{BegunEntry}
use Rattle.lynx_entry.specs.declared.entry.RefusedEntry.{RefusedEntry}
use Rattle.lynx_entry.specs.declared.entry.HopEntry.{HopEntry}
use Rattle.lynx_entry.specs.declared.entry.Entry.{Entry}
use Rattle.lynx_entry.specs.declared.entry.Entry.TheVariants.{Begun, Refused, Hop}
use Rattle.lynx_names.specs.declared.numbers.NumberAt.{NumberAt}
use Rattle.lynx_entry.specs.declared.message.Message.{Message}
use Rattle.lynx_entry.specs.declared.request.Request.{Request}
use Rattle.lynx_entry.specs.Entry.{History}
use Rattle.lynx_rules.specs.Turns.{begun_count, number_for, numbers_of, turn_of}
use Rattle.lynx_rules.specs.Tables.{tables_of, clock_of}
use Rattle.lynx_rules.specs.Checks.{request_fault, is_well_formed}

-- the entry keeps the answer to a request of this client and number
abbrev pub is_record_of : Request → Entry → Bool
is_record_of request (Begun begun) =
    (begun.request.client == request.client) && (begun.request.number == request.number)
is_record_of request (Refused refused) =
    (refused.request.client == request.client) && (refused.request.number == request.number)
is_record_of request (Hop ran) = false

abbrev pub record_of : Request → History → Option Entry
record_of request history = find (is_record_of request) history

-- the entry is of this hop of this chain, which is not its first
abbrev pub is_hop_of : ChainId → ℕ → Entry → Bool
is_hop_of chain hop (Begun begun) = false
is_hop_of chain hop (Refused refused) = false
is_hop_of chain hop (Hop ran) =
    (ran.message.chain.origin == chain.origin) && (ran.message.chain.index == chain.index) &&
    (ran.message.hop == hop)

abbrev pub hop_entry_of : ChainId → ℕ → History → Option Entry
hop_entry_of chain hop history = find (is_hop_of chain hop) history

-- the number that a chain has for a server
abbrev pub number_at : List NumberAt → ℕ → Option ℕ
number_at numbers server =
    option_map (λ found. found.number) (find (λ found. found.server == server) numbers)

-- there is room for one more entry, with a stamp above the clock and the one that it was told
pub record HasRoom (history : History) (told : ℕ) : Type 0 where
  pub entries : length history < MAX_ENTRIES
  pub stamps : max (clock_of history) told + 1 < STAMP_LIMIT

-- a begin that is new, in order, and not held up by a chain that has still to return here
pub record MayBegin (set : Set) (server : ℕ) (history : History) (request : Request) : Type 0 where
  pub new : IsNone (record_of request history)
  pub in_order : IsNone (request_fault set server request)
  pub in_turn : number_for set history server ≡ turn_of set server history server

pub record IsLawfulBegun (set : Set) (server : ℕ) (history : History) (begun : BegunEntry) : Type
    0 where
  pub room : HasRoom history begun.seen
  pub stamp : begun.stamp ≡ max (clock_of history) begun.seen + 1
  pub may_begin : MayBegin set server history begun.request
  pub origin : begun.chain.origin ≡ server
  pub index : begun.chain.index ≡ begun_count history
  pub numbers : begun.numbers ≡ numbers_of set history begun.request.program
  pub results : (db : Database)
      × (meaning set begun.request.program 0 begun.request.args [] (tables_of set history)
      ≡ Ok (begun.results, db))

pub record IsLawfulRefused (set : Set) (server : ℕ) (history : History)
    (refused : RefusedEntry) : Type 0 where
  pub room : HasRoom history refused.seen
  pub stamp : refused.stamp ≡ max (clock_of history) refused.seen + 1
  pub may_begin : MayBegin set server history refused.request
  pub need : meaning set refused.request.program 0 refused.request.args [] (tables_of set history)
      ≡ Err refused.need

pub record IsLawfulHop (set : Set) (server : ℕ) (history : History) (ran : HopEntry) : Type 0 where
  pub room : HasRoom history ran.message.stamp
  pub stamp : ran.stamp ≡ max (clock_of history) ran.message.stamp + 1
  pub well_formed : IsTrue (is_well_formed set server history ran.message)
  pub new : IsNone (hop_entry_of ran.message.chain ran.message.hop history)
  pub in_turn : unwrap_or (number_at ran.message.numbers server) 0
      ≡ turn_of set server history ran.message.chain.origin
  pub results : (db : Database)
      × (meaning set ran.message.program ran.message.hop ran.message.args ran.message.results
      (tables_of set history) ≡ Ok (ran.results, db))

-- The entry may come next after the history, at that server.
abbrev pub IsLawful : Set → ℕ → History → Entry → Type 0
IsLawful set server history (Begun begun) = IsLawfulBegun set server history begun
IsLawful set server history (Refused refused) = IsLawfulRefused set server history refused
IsLawful set server history (Hop ran) = IsLawfulHop set server history ran

-- the message of a later hop's entry, none of the other entries
abbrev pub message_of : Entry → Option Message
message_of (Begun begun) = None
message_of (Refused refused) = None
message_of (Hop ran) = Some ran.message

-- the entry may come next, and its hop ran on this message
pub record Runs (set : Set) (server : ℕ) (history : History) (message : Message)
    (entry : Entry) : Type 0 where
  pub lawful : IsLawful set server history entry
  pub of_message : message_of entry ≡ Some message

-- the entry may come next, and it is of no message
pub record Starts (set : Set) (server : ℕ) (history : History) (entry : Entry) : Type 0 where
  pub lawful : IsLawful set server history entry
  pub of_none : message_of entry ≡ None
