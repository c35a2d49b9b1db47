-- What contracts see of the books of a server, and what is counted in them.
use Rattle.std.specs.Prelude.{◌≡◌, ℕ, ◌<◌, ◌==◌, Bool, false, List, length, slice_index, slice_get, find, Option, Some, None}
use Rattle.std.specs.List.{list_any}
use Rattle.lynx_names.specs.declared.limits.TheConstants.{MAX_SERVERS}
use Rattle.lynx_names.specs.declared.numbers.NumberAt.{NumberAt}
use Rattle.lynx_cells.specs.Database.{Database}
use Rattle.lynx_set.specs.Set.{Set}
use Rattle.lynx_entry.specs.declared.entry.Entry.{Entry}
use Rattle.lynx_entry.specs.declared.entry.Entry.TheVariants.{Begun, Refused, Hop}
use Rattle.lynx_entry.specs.declared.message.Message.{Message}
use Rattle.lynx_entry.specs.Entry.{History}
use Rattle.lynx_rules.specs.Turns.{begun_count, number_for, turn_of}
use Rattle.lynx_rules.specs.Tables.{tables_of}
use Rattle.lynx_rules.specs.Checks.{begins}
use Rattle.lynx_server.specs.History.{IsLawfulHistory}

-- the books of a server: all that it did, and the numbers that are drawn and neither bound nor
-- given back
pub record BooksState : Type 0 where
  pub set : Set
  pub server : ℕ
  pub history : History
  pub out : Option (List NumberAt)

-- the chain of that index began
abbrev pub begins_as : ℕ → Entry → Bool
begins_as index (Begun begun) = begun.chain.index == index
begins_as index (Refused refused) = false
begins_as index (Hop ran) = false

-- the entry in which that very chain began was found
abbrev pub begins_found : Message → Option Entry → Bool
begins_found message (Some entry) = begins message entry
begins_found message None = false

-- the place, if there is one, is that of the entry that is found
abbrev pub IsFoundAt : History → Option ℕ → Option Entry → Type 0
IsFoundAt history None found = found ≡ None
IsFoundAt history (Some place) found = (place < length history) × (slice_get history place ≡ found)

-- what stands beside a history is what the definitions say of it
pub record IsBooks (set : Set) (server : ℕ) (history : History) (counters turns chains : List ℕ)
    (cells : Database) : Type 0 where
  pub lawful : IsLawfulHistory set server history
  pub counters_are : (visited : ℕ) → visited < MAX_SERVERS
      → slice_index counters visited ≡ number_for set history visited
  pub turns_are : (origin : ℕ) → origin < MAX_SERVERS
      → slice_index turns origin ≡ turn_of set server history origin
  -- each chain that began here visits this server
  pub home_is : number_for set history server ≡ begun_count history
  pub chains_are : (index : ℕ)
      → IsFoundAt history (slice_get chains index) (find (begins_as index) history)
  pub chains_count : length chains ≡ begun_count history
  -- one entry alone began a chain
  pub sole : (message : Message)
      → list_any (begins message) history
      ≡ begins_found message (find (begins_as message.chain.index) history)
  pub cells_are : cells ≡ tables_of set history
