-- When a set extends another: what the other has stands in it, under the same numbers.
use Rattle.std.specs.Prelude.{◌≡◌, ◌<◌, ◌≤◌, ℕ, length, slice_get, Option, Some, None}
use Rattle.lynx_set.specs.Set.{Set}
use Rattle.lynx_extend.specs.declared.fault.ExtendFault.{ExtendFault}
use Rattle.lynx_extend.specs.declared.fault.ExtendFault.TheVariants as faults
use Rattle.lynx_set.specs.declared.version.Version.{Version}
use Rattle.lynx_set.specs.declared.version.Version.TheVariants.{One, Two}

-- the version stays, or rises
abbrev pub StaysOrRises : Version → Version → Type 0
StaysOrRises Two One = ⊥
StaysOrRises old new = Unit {0}

-- the table of that number has the same name and the same shards
pub record IsSameTable (old new : Set) (table : ℕ) : Type 0 where
  pub name : slice_get new.tables table ≡ slice_get old.tables table
  pub shards : slice_get new.shards table ≡ slice_get old.shards table

-- the program of that number has the same name, and is the same to the last word
abbrev pub IsSameProgram : Set → Set → ℕ → Type 0
IsSameProgram old new program = slice_get new.programs program ≡ slice_get old.programs program

-- .. each of the first so many
abbrev pub AreSameTables : Set → Set → ℕ → Type 0
AreSameTables old new count = (table : ℕ) → table < count → IsSameTable old new table

abbrev pub AreSamePrograms : Set → Set → ℕ → Type 0
AreSamePrograms old new count = (program : ℕ) → program < count → IsSameProgram old new program

-- the new set may be of a later version and have more servers
pub record KeepsHead (old new : Set) : Type 0 where
  pub version : StaysOrRises old.version new.version
  pub servers : old.servers ≤ new.servers

-- The new set extends the old one: its version and servers are as they may be, and it has each
-- table and each program of the old one under its number.
pub record Extends (old new : Set) : Type 0 where
  pub head : KeepsHead old new
  pub tables : AreSameTables old new (length old.tables)
  pub programs : AreSamePrograms old new (length old.programs)

-- the first of the old tables that isn't the same
pub record IsFirstOtherTable (old new : Set) (table : ℕ) : Type 0 where
  pub there : table < length old.tables
  pub before : AreSameTables old new table
  pub other : IsSameTable old new table → ⊥

-- the first of the old programs that isn't the same
pub record IsFirstOtherProgram (old new : Set) (program : ℕ) : Type 0 where
  pub there : program < length old.programs
  pub before : AreSamePrograms old new program
  pub other : IsSameProgram old new program → ⊥

-- the head is as it may be, and this is the first table that isn't
pub record EndsAtTable (old new : Set) (table : ℕ) : Type 0 where
  pub head : KeepsHead old new
  pub first : IsFirstOtherTable old new table

-- head and tables are as they may be, and this is the first program that isn't
pub record EndsAtProgram (old new : Set) (program : ℕ) : Type 0 where
  pub head : KeepsHead old new
  pub tables : AreSameTables old new (length old.tables)
  pub first : IsFirstOtherProgram old new program

-- the first reason for which the new set doesn't extend the old one, version, servers, tables and
-- programs being looked at in this order
abbrev pub IsExtendFault : Set → Set → ExtendFault → Type 0
IsExtendFault old new faults.Version = StaysOrRises old.version new.version → ⊥
IsExtendFault old new faults.Servers =
    StaysOrRises old.version new.version × (new.servers < old.servers)
IsExtendFault old new (faults.TableChanged table) =
    EndsAtTable old new table × (table < length new.tables)
IsExtendFault old new (faults.TableGone table) =
    EndsAtTable old new table × (length new.tables ≤ table)
IsExtendFault old new (faults.ProgramChanged program) =
    EndsAtProgram old new program × (program < length new.programs)
IsExtendFault old new (faults.ProgramGone program) =
    EndsAtProgram old new program × (length new.programs ≤ program)

-- it extends it, or that is the first reason why not
abbrev pub JudgesExtension : Set → Set → Option ExtendFault → Type 0
JudgesExtension old new None = Extends old new
JudgesExtension old new (Some fault) = IsExtendFault old new fault
