-- Entries that are stored as their encodings, one behind the other.
use Rattle.std.specs.Prelude.{◌≡◌, ℕ, zero, suc, List, [], ◌∷◌, length, Some, None, Ok, Err}
use Rattle.std.specs.List.{flat_map, AllByRecursion}
use Rattle.lynx_entry.specs.declared.entry.Entry.{Entry}
use Rattle.lynx_entry.specs.Entry.{History}
use Rattle.lynx_codec.specs.declared.item.Item.{Item}
use Rattle.lynx_codec.specs.declared.item.Item.TheVariants as items
use Rattle.lynx_codec.specs.Encoding.{encoding}
use Rattle.lynx_codec.specs.Front.{Found, front}
use Rattle.lynx_codec.specs.Ranges.{IsItem}
use Rattle.lynx_codec.specs.Feeding.{Stream}

abbrev pub encoding_of : Entry → List ℕ
encoding_of entry = encoding (items.Entry entry)

abbrev pub HasEncoding : Entry → Type 0
HasEncoding entry = IsItem (items.Entry entry)

-- the encodings of entries, one behind the other
abbrev pub encodings_of : History → List ℕ
encodings_of entries = flat_map encoding_of entries

abbrev pub IsEntry : Item → Type 0
IsEntry item = (entry : Entry) × (item ≡ items.Entry entry)

-- the item before these entries, if it is one
abbrev pub item_before : Item → History → History
item_before (items.Entry entry) others = entry ∷ others
item_before item others = []

-- the entry at the front of a stream, and those that are read behind it
abbrev pub entries_from : Found → (List ℕ → History) → History
entries_from (Ok (Some found)) read = item_before found.0 (read found.1)
entries_from (Ok None) read = []
entries_from (Err fault) read = []

-- the entries whose encodings the bytes begin with, at most so many
unfoldable pub first_entries : ℕ → List ℕ → History
first_entries zero bytes = []
first_entries (suc n) bytes = entries_from (front bytes) (first_entries n)

-- the entries whose encodings the bytes begin with: each encoding has a byte at least
unfoldable pub entries_in : List ℕ → History
entries_in bytes = first_entries (length bytes) bytes

-- the bytes are encodings of entries, and nothing else
pub record AreStored (bytes : List ℕ) : Type 0 where
  pub have_encodings : AllByRecursion HasEncoding (entries_in bytes)
  pub encodings : bytes ≡ encodings_of (entries_in bytes)

-- a feed that has not failed has encodings of entries before it
pub record HasEntries (stream : Stream) : Type 0 where
  pub stored : AreStored stream.rest
  pub open_so : stream.failed ≡ None
