-- A store of version 1 that becomes one of version 2.
use Rattle.std.specs.Prelude.{◌≡◌, ◌⊎◌, ◌<◌, ◌^◌, ℕ, List}
use Rattle.lynx_cells.specs.Database.{Database}
use Rattle.sqlite.specs.Tree.{Trees}
use Rattle.sqlite.specs.State.{State}
use Rattle.lynx_keep.specs.Kept.{KeptState}
use Rattle.lynx_set.specs.Set.{Set}
use Rattle.lynx_set.specs.Text.{text_of}
use Rattle.lynx_set.specs.declared.version.Version.TheVariants.{One, Two}
use Rattle.lynx_sql.specs.Steps.{Holds}
use Rattle.lynx_store.specs.Acts.{AreApart, acts_from}
use Rattle.lynx_store.specs.Stored.{AreInTables, IsKept, IsServerOf, contents_of, owner_for}

-- the same set at version 2
abbrev pub second_of : Set → Set
second_of chains = record chains { version = Two }

-- each cell is of a table of the set that has this text
abbrev pub AreInTablesOf : List ℕ → Database → Type 0
AreInTablesOf text cells =
    (chains : Set) × (text_of chains ≡ text) × AreInTables chains cells

-- what a store of version 1 keeps can stand in one of version 2: its cells are of tables of its
-- set, and no two of its entries are of one hop
pub record MayUpgrade (chains : Set) (kept : KeptState) : Type 0 where
  pub version : chains.version ≡ One
  pub tables : AreInTablesOf (text_of chains) kept.cells
  pub apart : AreApart (acts_from 0 kept.entries)

-- the same of a set itself, as a server of it keeps it, in fewer than 2^32 entries
pub record CanUpgrade (s : State) (server : ℕ) (chains : Set) (count : ℕ) (kept : KeptState)
    : Type 0 where
  pub server_of : IsServerOf server chains
  pub keeps : IsKept s (owner_for server chains) count kept
  pub few : count < 2 ^ 32
  pub version : chains.version ≡ One
  pub tables : AreInTables chains kept.cells
  pub apart : AreApart (acts_from 0 kept.entries)

-- it is a store that can be upgraded
abbrev pub IsFirst : State → Type 0
IsFirst s =
    (server : ℕ) × (chains : Set) × (count : ℕ) × (kept : KeptState)
    × IsKept s (owner_for server chains) count kept × MayUpgrade chains kept

-- whatever a server of a set kept is kept, and could be, and its set is of version 2
abbrev pub Upgrades : State → State → ℕ → Type 0
Upgrades old new count =
    (server : ℕ) (chains : Set) (before : ℕ) (kept : KeptState)
    → IsKept old (owner_for server chains) before kept
    → MayUpgrade chains kept × IsKept new (owner_for server (second_of chains)) count kept

-- it is a store of version 2, of so many entries and of cells of its set's tables
abbrev pub IsSecond : State → ℕ → Type 0
IsSecond s count =
    (server : ℕ) × (chains : Set) × (kept : KeptState)
    × IsKept s (owner_for server (second_of chains)) count kept × AreInTables chains kept.cells

-- a stop leaves what a server of a set kept, as it was, or where it can be upgraded the whole store
-- of version 2
abbrev pub LeavesUpgraded : State → State → Type 0
LeavesUpgraded old new =
    (server : ℕ) (chains : Set) (before : ℕ) (kept : KeptState)
    → IsKept old (owner_for server chains) before kept
    → (db : Trees) → new.may_leave db → Holds db (contents_of (owner_for server chains) kept)
    ⊎ (MayUpgrade chains kept × Holds db (contents_of (owner_for server (second_of chains)) kept))
