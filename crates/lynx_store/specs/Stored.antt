-- What the tables of a store stand for.
use Rattle.std.specs.Prelude.{◌≡◌, ◌≢◌, ◌⊎◌, ◌<◌, ◌^◌, ℕ, List, All, codes, map, length}
use Rattle.std.specs.FinMap as finite
use Rattle.lynx_cells.specs.Database.{Database}
use Rattle.lynx_cells.specs.Triples.{triples_of}
use Rattle.std.specs.Fmt.{decimal}
use Rattle.std.specs.List.{AllByRecursion}
use Rattle.sqlite.specs.Order.{Row}
use Rattle.sqlite.specs.Tree.{Trees}
use Rattle.sqlite.specs.State.{State}
use Rattle.lynx_entry.specs.Entry.{History}
use Rattle.lynx_keep.specs.Kept.{KeptState, nothing_kept}
use Rattle.lynx_keep.specs.Stored.{encoding_of, HasEncoding}
use Rattle.lynx_store.specs.declared.fault.StoreFault.{StoreFault}
use Rattle.lynx_store.specs.declared.fault.StoreFault.TheVariants.{OtherSet, OtherVersion}
use Rattle.lynx_set.specs.Rules.{IsSet}
use Rattle.lynx_set.specs.Set.{Set}
use Rattle.lynx_set.specs.Text.{text_of}
use Rattle.lynx_set.specs.declared.version.Version.{Version}
use Rattle.lynx_set.specs.declared.version.Version.TheVariants as sets
use Rattle.lynx_store.specs.Acts.{acted_of}
use Rattle.lynx_sql.specs.Contents.{Title, Contents, title_of}
use Rattle.lynx_sql.specs.declared.version.StoreVersion.{StoreVersion}
use Rattle.lynx_sql.specs.declared.version.StoreVersion.TheVariants.{One, Two}
use Rattle.lynx_sql.specs.declared.reading.StoredRows.{StoredRows}
use Rattle.lynx_sql.specs.Shown.{AreCells}
use Rattle.lynx_sql.specs.Rows.{meta_rows, shown_meta}
use Rattle.lynx_sql.specs.Tables.{meta_tree, no_schema}
use Rattle.lynx_sql.specs.Reading.{ShowRows}
use Rattle.lynx_sql.specs.Steps.{Holds, Keeps}

-- the version of the tables, as the first row of `meta` has it
abbrev pub version_text : StoreVersion → List ℕ
version_text One = codes "lynx store 1"
version_text Two = codes "lynx store 2"

-- the version of the stores of a set
abbrev pub version_for : Version → StoreVersion
version_for sets.One = One
version_for sets.Two = Two

-- whose a store is: its version, the number of its server in decimal, and the text of its set
pub record Owner : Type 0 where
  pub version : StoreVersion
  pub server : List ℕ
  pub set : List ℕ

-- the texts that `meta` has of it
abbrev pub title_for : Owner → Title
title_for owner = title_of (version_text owner.version) owner.server owner.set

-- a server of a set owns its store
abbrev pub owner_for : ℕ → Set → Owner
owner_for server chains =
    record { version = version_for chains.version; server = decimal server; set = text_of chains }

-- a server of a set that has a text
pub record IsServerOf (server : ℕ) (chains : Set) : Type 0 where
  pub set : IsSet chains
  pub server_is : server < chains.servers

-- the encodings of entries, a body each
abbrev pub bodies_of : History → List (List ℕ)
bodies_of entries = map encoding_of entries

-- what the tables of an owner hold of what is kept
abbrev pub contents_of : Owner → KeptState → Contents
contents_of owner kept = record {
  title = title_for owner;
  bodies = bodies_of kept.entries;
  cells = kept.cells;
  acted = acted_of owner.version kept.entries;
}

-- the tables of an open store stand for this, and the next place is known
pub record IsKept (s : State) (owner : Owner) (count : ℕ) (kept : KeptState) : Type 0 where
  pub tables : Keeps s (contents_of owner kept)
  pub counted : count ≡ length kept.entries
  -- without that two entries might have one encoding
  pub formed : AllByRecursion HasEncoding kept.entries

-- whatever a stop leaves stands for one or the other
abbrev pub LeavesOneOf : (Trees → Type 0) → Owner → KeptState → KeptState → Type 0
LeavesOneOf may_leave owner one other =
    (db : Trees) → may_leave db
    → Holds db (contents_of owner one) ⊎ Holds db (contents_of owner other)

-- nothing is kept for the owner, in fewer than 2^32 entries: a place has 32 bits
abbrev pub KeepsNothing : State → Owner → Type 0
KeepsNothing s owner =
    (count : ℕ) (kept : KeptState) → count < 2 ^ 32 → IsKept s owner count kept → ⊥

-- nothing is kept for any owner
abbrev pub HoldsNothing : State → Type 0
HoldsNothing s = (owner : Owner) (count : ℕ) (kept : KeptState) → IsKept s owner count kept → ⊥

-- nothing is kept for any server of any set
abbrev pub KeepsNothingForAny : State → Type 0
KeepsNothingForAny s =
    (server : ℕ) (chains : Set) → IsServerOf server chains
    → KeepsNothing s (owner_for server chains)

-- what is kept stays kept, whoever owns it
abbrev pub StaysKept : State → State → Type 0
StaysKept old new =
    (owner : Owner) (count : ℕ) (kept : KeptState) → IsKept old owner count kept
    → IsKept new owner count kept

-- a stop leaves nothing that it could not leave before
abbrev pub LeavesNoMore : State → State → Type 0
LeavesNoMore old new = (db : Trees) → new.may_leave db → old.may_leave db

-- the title that `meta` holds
abbrev pub HasTitle : State → Title → Type 0
HasTitle s title = s.committed.trees meta_tree ≡ meta_rows title

-- the title that rows of `meta` show
abbrev pub ShowsTitle : List Row → Title → Type 0
ShowsTitle rows title = rows ≡ shown_meta title

-- the title is that of another version than the owner's
abbrev pub IsOfOtherVersion : (Title → Type 0) → Owner → Type 0
IsOfOtherVersion has owner =
    (title : Title) × has title × (title.version ≢ version_text owner.version)

-- it is that of the owner's version, and of another server or another set
abbrev pub IsOfOtherSet : (Title → Type 0) → Owner → Type 0
IsOfOtherSet has owner =
    (title : Title) × has title × (title.version ≡ version_text owner.version)
    × ((title.server ≢ owner.server) ⊎ (title.set ≢ owner.set))

-- it is that of no version
abbrev pub IsOfNoVersion : (Title → Type 0) → Type 0
IsOfNoVersion has =
    (title : Title) × has title × ((version : StoreVersion) → title.version ≢ version_text version)

-- the fault says that the store is another's
abbrev pub IsOther : StoreFault → Type 0
IsOther fault = (fault ≡ OtherSet) ⊎ (fault ≡ OtherVersion)

-- a stop leaves what it could leave before, or of a database without tables the whole new store
abbrev pub LeavesOpened : State → State → Owner → Type 0
LeavesOpened old new owner = (db : Trees) → new.may_leave db
    → old.may_leave db ⊎ ((old.now.schema ≡ no_schema) × Holds db (contents_of owner nothing_kept))

-- the rows tell this of an owner, and nothing else
pub record Tells (rows : StoredRows) (owner : Owner) (kept : KeptState) : Type 0 where
  pub cells : AreCells rows.cells.items
  pub shown : ShowRows rows (contents_of owner kept)
  pub formed : AllByRecursion HasEncoding kept.entries

-- each cell is of a table that the set has
abbrev pub AreInTables : Set → Database → Type 0
AreInTables chains cells =
    All (λ cell. cell.0 < length chains.tables) (triples_of (finite.entries cells))
