-- A store that is given to a set which extends its own.
use Rattle.std.specs.Prelude.{◌≡◌, ◌≢◌, ◌⊎◌, ◌↔◌, ◌<◌, ◌^◌, ℕ, List, length, Option, Some, None, Vec, IsTrue}
use Rattle.std.specs.declared.alloc.Global.{Global}
use Rattle.sqlite.specs.Tree.{Trees}
use Rattle.sqlite.specs.State.{State}
use Rattle.lynx_entry.specs.Entry.{History}
use Rattle.lynx_keep.specs.Kept.{KeptState}
use Rattle.lynx_set.specs.Set.{Set}
use Rattle.lynx_set.specs.declared.version.Version.{Version}
use Rattle.lynx_set.specs.declared.version.Version.TheVariants as sets
use Rattle.lynx_extend.specs.Extends.{Extends, StaysOrRises}
use Rattle.lynx_sql.specs.declared.acts.Acted.{Acted}
use Rattle.lynx_sql.specs.declared.version.StoreVersion.TheVariants.{Two}
use Rattle.lynx_sql.specs.Acts.{ArePlaced}
use Rattle.lynx_sql.specs.Contents.{Contents, retitled, upgraded}
use Rattle.lynx_sql.specs.Steps.{Holds}
use Rattle.lynx_store.specs.declared.extending.Extended.{Extended}
use Rattle.lynx_store.specs.Acts.{AreApart, acts_from}
use Rattle.lynx_store.specs.Stored.{AreInTables, IsKept, IsServerOf, contents_of, owner_for, version_text}

-- the version rises from 1 to 2
abbrev pub Rises : Version → Version → Type 0
Rises old new = (old ≡ sets.One) × (new ≡ sets.Two)

-- what a store of a set keeps can stand in one of the new set: that extends it, the cells are of
-- its tables, and where the version rises no two entries are of one hop
pub record MayExtend (chains new : Set) (kept : KeptState) : Type 0 where
  pub extends : Extends chains new
  pub tables : AreInTables chains kept.cells
  pub apart : Rises chains.version new.version → AreApart (acts_from 0 kept.entries)

-- a server of a set that has a text keeps it
pub record KeepsFor (s : State) (server : ℕ) (chains : Set) (count : ℕ) (kept : KeptState)
    : Type 0 where
  pub server_of : IsServerOf server chains
  pub keeps : IsKept s (owner_for server chains) count kept

-- .. in fewer than 2^32 entries, and the new set may have it
pub record CanExtend (s : State) (server : ℕ) (chains new : Set) (count : ℕ) (kept : KeptState)
    : Type 0 where
  pub keeps : KeepsFor s server chains count kept
  pub few : count < 2 ^ 32
  pub may : MayExtend chains new kept

-- whatever a server of a set kept is this server's, the new set may have it, and it is still kept
abbrev pub IsExtendable : State → State → ℕ → Set → ℕ → Type 0
IsExtendable old new server set count =
    (other : ℕ) (chains : Set) (before : ℕ) (kept : KeptState)
    → KeepsFor old other chains before kept → (other ≡ server) × MayExtend chains set kept
    × IsKept new (owner_for server chains) count kept

-- .. and it is kept for the new set
abbrev pub ExtendsStore : State → State → ℕ → Set → ℕ → Type 0
ExtendsStore old new server set count =
    (other : ℕ) (chains : Set) (before : ℕ) (kept : KeptState)
    → KeepsFor old other chains before kept → (other ≡ server) × MayExtend chains set kept
    × IsKept new (owner_for server set) count kept

-- the server, which the set has, keeps so many entries
abbrev pub IsOfSet : State → ℕ → Set → ℕ → Type 0
IsOfSet s server set count =
    (kept : KeptState) × (server < set.servers) × IsKept s (owner_for server set) count kept

-- it tells of the set that whatever is kept is kept for
abbrev pub TellsOld : State → Set → Extended → Type 0
TellsOld s set told =
    (server : ℕ) (chains : Set) (count : ℕ) (kept : KeptState)
    → KeepsFor s server chains count kept
    → (IsTrue told.was_same ↔ (chains ≡ set)) × (told.servers ≡ chains.servers)

-- a stop leaves what a server of a set kept, as it was, or where the new set may have it the whole
-- store of that
abbrev pub LeavesExtended : State → State → Set → Type 0
LeavesExtended old new set =
    (server : ℕ) (chains : Set) (before : ℕ) (kept : KeptState)
    → KeepsFor old server chains before kept
    → (db : Trees) → new.may_leave db → Holds db (contents_of (owner_for server chains) kept)
    ⊎ (MayExtend chains set kept × Holds db (contents_of (owner_for server set) kept))

-- whatever set it is kept for is of a later version
abbrev pub IsOfLaterVersion : State → Set → Type 0
IsOfLaterVersion s set =
    (server : ℕ) (chains : Set) (count : ℕ) (kept : KeptState)
    → KeepsFor s server chains count kept → StaysOrRises chains.version set.version → ⊥

-- whatever is kept is another server's, or its set isn't extended by the new one, and not for its
-- version
abbrev pub IsForeign : State → ℕ → Set → Type 0
IsForeign s server set =
    (other : ℕ) (chains : Set) (count : ℕ) (kept : KeptState) → KeepsFor s other chains count kept
    → (other ≢ server)
    ⊎ (StaysOrRises chains.version set.version × (Extends chains set → ⊥))

-- the server keeps nothing, for whatever set, that the new set may have
abbrev pub KeepsNoSuch : State → ℕ → Set → Type 0
KeepsNoSuch s server set =
    (chains : Set) (count : ℕ) (kept : KeptState) → CanExtend s server chains set count kept → ⊥

-- what a store gets beside the text of the new set: the hops of its entries where the version rises
abbrev pub AreActsFor : Version → Version → History → Option (Vec Acted Global) → Type 0
AreActsFor old new entries None = old ≡ new
AreActsFor old new entries (Some acts) = Rises old new × (acts.items ≡ acts_from 0 entries)

-- what its tables hold then
abbrev pub given : Contents → List ℕ → Option (Vec Acted Global) → Contents
given before set None = retitled before set
given before set (Some acts) = upgraded before (version_text Two) set acts.items

-- .. which can be written
abbrev pub CanGet : Contents → Option (Vec Acted Global) → Type 0
CanGet before None = Unit {0}
CanGet before (Some acts) = (before.acted ≡ None) × ArePlaced acts.items (length before.bodies)
