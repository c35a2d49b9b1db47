-- What is told of cells and of requests, by stores that nobody serves.
use Rattle.std.specs.Prelude.{◌≡◌, ◌≤◌, ◌^◌, ◌-◌, ℕ, List, [], ◌∷◌, ◌++◌, All, codes, decimal, length, map, Option, Some, None}
use Rattle.std.specs.List.{range_with_len}
use Rattle.std.specs.Io.KnownBytes.{Appends}
use Rattle.sqlite.specs.State.{State}
use Rattle.lynx_ask.specs.Lookups.{range_text}
use Rattle.lynx_keep.specs.Kept.{kept_in}
use Rattle.lynx_lex.specs.Lines.{with_feed}
use Rattle.lynx_set.specs.Names.{place_of}
use Rattle.lynx_set.specs.Set.{Set}
use Rattle.lynx_show.specs.Finds.{request_lines}
use Rattle.lynx_show.specs.Reads.{key_lines, range_lines}
use Rattle.lynx_show.specs.declared.reading.KeyRange.{KeyRange}
use Rattle.lynx_store.specs.Premise.{IsUndisturbed}
use Rattle.lynx_store.specs.Stored.{IsKept, owner_for}
use Rattle.lynx_store.specs.declared.inspecting.Inspected.{Inspected}
use Rattle.lynx_store_files.specs.Paths.{store_path}
use Rattle.lynx_cli.specs.declared.looking.Keys.{Keys}
use Rattle.lynx_cli.specs.declared.looking.Keys.TheVariants.{One, Several}

-- a copy of the store at that path was read, and held this
pub record IsReadAt {C : Type 0} (copied_from : List ℕ → C → Type 0) (state_of : C → State)
    (path : List ℕ) (held : Inspected) : Type 0 where
  pub copy : C
  pub from : copied_from path copy
  pub read : C
  pub kept : IsUndisturbed (state_of read)
      → IsKept (state_of read) (owner_for held.server held.set)
      (length held.loaded.entries.items) (kept_in held.loaded)

-- what the store of a server in that folder holds, which is of the set
pub record IsHeld {C : Type 0} (copied_from : List ℕ → C → Type 0) (state_of : C → State)
    (folder : List ℕ) (set : Set) (held : Inspected) : Type 0 where
  pub set_is : held.set ≡ set
  pub read : IsReadAt copied_from state_of (store_path folder held.server) held

-- what the stores of all servers of the set hold, by number
pub record AreHeld {C : Type 0} (copied_from : List ℕ → C → Type 0) (state_of : C → State)
    (folder : List ℕ) (set : Set) (stores : List Inspected) : Type 0 where
  pub all : All (IsHeld copied_from state_of folder set) stores
  pub servers : map (λ held. held.server) stores ≡ range_with_len 0 set.servers

-- the keys that a word names, or all without one
abbrev pub IsKeysOf : Option (List ℕ) → Keys → Type 0
IsKeysOf None keys = keys ≡ Several (record { first = 0; last = 2 ^ 64 - 1 })
IsKeysOf (Some word) (One key) = word ≡ decimal key
IsKeysOf (Some word) (Several range) =
    (word ≡ range_text range.first range.last) × (range.first ≤ range.last)

-- the lines of a table's cells with those keys
abbrev pub keys_lines : Set → List Inspected → ℕ → Keys → List ℕ
keys_lines set stores table (One key) = key_lines set stores table key
keys_lines set stores table (Several range) = range_lines set stores table range

-- the cells of a table were told, and the status is 0
pub record HasRead {C : Type 0} (copied_from : List ℕ → C → Type 0) (state_of : C → State)
    (folder name : List ℕ) (word : Option (List ℕ)) (old new : Option (List ℕ)) (status : ℕ)
    : Type 0 where
  pub set : Set
  pub stores : List Inspected
  pub held : AreHeld copied_from state_of folder set stores
  pub table : ℕ
  pub named : place_of set.tables name ≡ Some table
  pub keys : Keys
  pub of_word : IsKeysOf word keys
  pub written : Appends old new (keys_lines set stores table keys)
  pub status_is : status ≡ 0

-- what is told of a request: its lines, or that there is no record of it
abbrev pub found_or_absent : List ℕ → List ℕ
found_or_absent [] = with_feed (codes "absent")
found_or_absent (byte ∷ lines) = byte ∷ lines

-- the status is 1 where there is none
abbrev pub status_of_found : List ℕ → ℕ
status_of_found [] = 1
status_of_found (byte ∷ lines) = 0

-- what became of a request was told
pub record HasFound {C : Type 0} (copied_from : List ℕ → C → Type 0) (state_of : C → State)
    (folder : List ℕ) (client number : ℕ) (old new : Option (List ℕ)) (status : ℕ)
    : Type 0 where
  pub set : Set
  pub stores : List Inspected
  pub held : AreHeld copied_from state_of folder set stores
  pub written : Appends old new (found_or_absent (request_lines set stores client number))
  pub status_is : status ≡ status_of_found (request_lines set stores client number)
