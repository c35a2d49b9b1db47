-- What a stop leaves of the files of a store, and what the next opening finds of it.
use Rattle.std.specs.Prelude.{◌≡◌, ◌⊎◌, ℕ, length}
use Rattle.sqlite_disk.specs.declared.Disk.{Ghosts}
use Rattle.sqlite_wal.specs.Recovery.{Image}
use Rattle.sqlite_store.specs.declared.store.FileStore.{FileStore}
use Rattle.sqlite_store.specs.FileStore.{view, recovers}
use Rattle.sqlite.specs.Held.{Held, IsConnected}
use Rattle.sqlite.specs.Files.{HoldsDatabase}
use Rattle.sqlite.specs.State.{State}
use Rattle.sqlite.specs.Tree.{Trees}
use Rattle.lynx_keep.specs.Kept.{KeptState}
use Rattle.lynx_sql.specs.Steps.{Holds}
use Rattle.lynx_store.specs.Stored.{IsKept, Owner, contents_of}

-- what the kit keeps true of each connection: it is the invariant of its type
abbrev pub IsSoundConnection : {D : Type 0} → {g : Ghosts D} → Held (FileStore D g) → Type 0
IsSoundConnection c =
    IsConnected (view c.store) (recovers c.store) c.schema c.saved c.in_transaction

-- the log and the file are a database that stands for one or the other
abbrev pub HoldsEither : Image → Owner → KeptState → KeptState → Type 0
HoldsEither image owner one other =
    ∥ ((db : Trees) × HoldsDatabase image db
    × (Holds db (contents_of owner one) ⊎ Holds db (contents_of owner other))) ∥₁

-- one of the two is kept, under this count
abbrev pub KeepsEither : State → Owner → ℕ → KeptState → KeptState → Type 0
KeepsEither s owner count one other = ∥ IsKept s owner count one ⊎ IsKept s owner count other ∥₁

-- one of the two is kept, under its own count
abbrev pub FindsEither : State → Owner → KeptState → KeptState → Type 0
FindsEither s owner one other =
    ∥ IsKept s owner (length one.entries) one ⊎ IsKept s owner (length other.entries) other ∥₁

-- what is read back is one of the two
abbrev pub IsEither : KeptState → KeptState → KeptState → Type 0
IsEither told one other = ∥ (told ≡ one) ⊎ (told ≡ other) ∥₁
