-- What a store that was closed leaves in its file.
use Rattle.std.specs.Prelude.{[], ℕ}
use Rattle.sqlite_disk.specs.declared.Disk.{Ghosts}
use Rattle.sqlite_disk.specs.declared.Files.{Files}
use Rattle.sqlite_wal.specs.Files.{outcomes}
use Rattle.sqlite_wal.specs.Reads.{AreClean}
use Rattle.sqlite_wal.specs.Recovery.{Image}
use Rattle.sqlite_store.specs.declared.store.FileStore.{FileStore}
use Rattle.sqlite.specs.Files.{HoldsDatabase, file_state}
use Rattle.sqlite.specs.Held.{Held}
use Rattle.sqlite.specs.Tree.{Trees}
use Rattle.lynx_keep.specs.Kept.{KeptState}
use Rattle.lynx_sql.specs.Steps.{Holds}
use Rattle.lynx_store.specs.Heading.{owner_in}
use Rattle.lynx_store.specs.Stored.{IsKept, Owner, contents_of}
use Rattle.lynx_store.specs.declared.heading.Heading.{Heading}

-- the file alone is a database that stands for this
abbrev pub FileHolds : Image → Owner → KeptState → Type 0
FileHolds image owner kept =
    ∥ ((db : Trees) × HoldsDatabase (record image { log = [] }) db
    × Holds db (contents_of owner kept)) ∥₁

-- as long as the disk has given back what was written to it, also after a stop
abbrev pub StandsAlone : {D : Type 0} → {g : Ghosts D} → Held (FileStore D g) → Files D → Owner
    → KeptState → Type 0
StandsAlone {D} {g} was files owner kept =
    AreClean g files.log files.db → (image : Image) → outcomes g files.log files.db image
    → FileHolds image owner kept

-- a store of this heading and count was let go into files: what it kept stands in its file alone
abbrev pub IsLetGo : {D : Type 0} → {g : Ghosts D} → Held (FileStore D g) → Heading → ℕ → Type 0
IsLetGo {D} was heading count =
    (files : Files D) × ((kept : KeptState)
    → IsKept (file_state was) (owner_in heading) count kept
    → StandsAlone was files (owner_in heading) kept)
