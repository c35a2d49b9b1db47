-- What the statements of a store do to its tables.
use Rattle.std.specs.Prelude.{◌≡◌, ◌<◌, ◌^◌, ℕ, true, IsTrue, List, [], ◌∷◌, ◌++◌, length, Option}
use Rattle.std.specs.List.{AllByRecursion}
use Rattle.sqlite_trees.specs.Tree.{Trees, put_row}
use Rattle.sqlite.specs.State.{State, Shows, HasCleanDisk}
use Rattle.sqlite.specs.Schema.{Schema}
use Rattle.sqlite.specs.Change.{KeepsRows}
use Rattle.sqlite.specs.Effect.{IsDatabase}
use Rattle.sqlite_catalog.specs.Listing.{Lists}
use Rattle.sqlite_trees.specs.Objects.{catalog_tree}
use Rattle.lynx_cells.specs.Database.{Database}
use Rattle.lynx_sql.specs.declared.acts.Acted.{Acted}
use Rattle.lynx_sql.specs.declared.version.StoreVersion.{StoreVersion}
use Rattle.lynx_sql.specs.declared.version.StoreVersion.TheVariants.{Two}
use Rattle.lynx_sql.specs.Contents.{Title, Contents, title_of, with_text}
use Rattle.lynx_sql.specs.Tables.{store_schema, acted_tree, cell_tree, entry_tree, meta_tree}
use Rattle.lynx_sql.specs.Rows.{meta_row, meta_rows, entry_row, entry_rows}
use Rattle.lynx_sql.specs.Cells.{HoldsCells}
use Rattle.lynx_sql.specs.Acts.{HoldsActs, HoldsActed, ArePlaced, acts_in, version_of, no_acts, with_acted, with_acts, noted}

-- what holds of a call that is made within a transaction, as long as the disk is clean
abbrev pub InTransaction : State → State → Type 0 → Type 0
InTransaction old new fact = HasCleanDisk new → IsTrue old.in_transaction → fact

-- the transaction goes on, with the same tables
pub record GoesOn (old new : State) : Type 0 where
  pub shown : Shows old new new.now old.committed true
  pub schema : new.now.schema ≡ old.now.schema
  pub catalog : new.now.trees catalog_tree ≡ old.now.trees catalog_tree

pub record AddsText (old new : State) (id : ℕ) (text : List ℕ) : Type 0 where
  pub on : GoesOn old new
  pub meta : new.now.trees meta_tree ≡ put_row (meta_row id text) (old.now.trees meta_tree)
  pub entries : new.now.trees entry_tree ≡ old.now.trees entry_tree
  pub cells : new.now.trees cell_tree ≡ old.now.trees cell_tree
  pub acted : new.now.trees acted_tree ≡ old.now.trees acted_tree

-- `meta` has the texts of the title, and had no row
pub record WritesTitle (old new : State) (title : Title) : Type 0 where
  pub on : GoesOn old new
  pub meta : new.now.trees meta_tree ≡ meta_rows title
  pub entries : new.now.trees entry_tree ≡ old.now.trees entry_tree
  pub cells : new.now.trees cell_tree ≡ old.now.trees cell_tree
  pub acted : new.now.trees acted_tree ≡ old.now.trees acted_tree

pub record AddsEntry (old new : State) (place : ℕ) (body : List ℕ) : Type 0 where
  pub on : GoesOn old new
  pub meta : new.now.trees meta_tree ≡ old.now.trees meta_tree
  pub entries : new.now.trees entry_tree ≡ put_row (entry_row place body) (old.now.trees entry_tree)
  pub cells : new.now.trees cell_tree ≡ old.now.trees cell_tree
  pub acted : new.now.trees acted_tree ≡ old.now.trees acted_tree

-- `entry` holds what it held and these bodies after it, the first of them at the place, and the
-- other tables are as they were
pub record AddsEntries (old new : State) (place : ℕ) (bodies : List (List ℕ)) : Type 0 where
  pub on : GoesOn old new
  pub meta : new.now.trees meta_tree ≡ old.now.trees meta_tree
  pub entries : (before : List (List ℕ)) → place ≡ length before
      → old.now.trees entry_tree ≡ entry_rows 0 before
      → new.now.trees entry_tree ≡ entry_rows 0 (before ++ bodies)
  pub cells : new.now.trees cell_tree ≡ old.now.trees cell_tree
  pub acted : new.now.trees acted_tree ≡ old.now.trees acted_tree

-- the tables hold what they held, with these cells written
pub record WritesCells (old new : State) (change : Database → Database) : Type 0 where
  pub on : GoesOn old new
  pub meta : new.now.trees meta_tree ≡ old.now.trees meta_tree
  pub entries : new.now.trees entry_tree ≡ old.now.trees entry_tree
  pub cells : (db : Database) → HoldsCells (old.now.trees cell_tree) db
      → HoldsCells (new.now.trees cell_tree) (change db)
  pub acted : new.now.trees acted_tree ≡ old.now.trees acted_tree

-- `acted` holds what it held and these hops after it, and the other tables are as they were
pub record AddsActs (old new : State) (acts : List Acted) : Type 0 where
  pub on : GoesOn old new
  pub meta : new.now.trees meta_tree ≡ old.now.trees meta_tree
  pub entries : new.now.trees entry_tree ≡ old.now.trees entry_tree
  pub cells : new.now.trees cell_tree ≡ old.now.trees cell_tree
  pub acted : (before : List Acted) → HoldsActs (old.now.trees acted_tree) before
      → HoldsActs (new.now.trees acted_tree) (before ++ acts)
  pub fit : AllByRecursion (λ act. act.index < 2 ^ 64) acts

abbrev pub AddsAct : State → State → Acted → Type 0
AddsAct old new act = AddsActs old new (act ∷ [])

-- where stores of the version keep hops, the hop is kept too, if there is one
pub record NotesActed (old new : State) (version : StoreVersion) (act : Option Acted) : Type 0 where
  pub on : GoesOn old new
  pub meta : new.now.trees meta_tree ≡ old.now.trees meta_tree
  pub entries : new.now.trees entry_tree ≡ old.now.trees entry_tree
  pub cells : new.now.trees cell_tree ≡ old.now.trees cell_tree
  pub acted : (before : Option (List Acted)) → version_of before ≡ version
      → HoldsActed (old.now.trees acted_tree) before
      → HoldsActed (new.now.trees acted_tree) (with_acted before act)
  pub fit : AllByRecursion (λ act. act.index < 2 ^ 64) (noted version act)

-- where stores of the version keep hops, these are kept too
pub record NotesActs (old new : State) (version : StoreVersion) (acts : List Acted) : Type 0 where
  pub on : GoesOn old new
  pub meta : new.now.trees meta_tree ≡ old.now.trees meta_tree
  pub entries : new.now.trees entry_tree ≡ old.now.trees entry_tree
  pub cells : new.now.trees cell_tree ≡ old.now.trees cell_tree
  pub acted : (before : Option (List Acted)) → version_of before ≡ version
      → HoldsActed (old.now.trees acted_tree) before
      → HoldsActed (new.now.trees acted_tree) (with_acts before acts)
  pub fit : version ≡ Two → AllByRecursion (λ act. act.index < 2 ^ 64) acts

-- `meta` has another text under a number
pub record SetsText (old new : State) (id : ℕ) (text : List ℕ) : Type 0 where
  pub on : GoesOn old new
  pub meta : (title : Title) → old.now.trees meta_tree ≡ meta_rows title
      → new.now.trees meta_tree ≡ meta_rows (with_text title id text)
  pub entries : new.now.trees entry_tree ≡ old.now.trees entry_tree
  pub cells : new.now.trees cell_tree ≡ old.now.trees cell_tree
  pub acted : new.now.trees acted_tree ≡ old.now.trees acted_tree

-- `meta` has two other texts
pub record Retitles (old new : State) (version set : List ℕ) : Type 0 where
  pub on : GoesOn old new
  pub meta : (title : Title) → old.now.trees meta_tree ≡ meta_rows title
      → new.now.trees meta_tree ≡ meta_rows (title_of version title.server set)
  pub entries : new.now.trees entry_tree ≡ old.now.trees entry_tree
  pub cells : new.now.trees cell_tree ≡ old.now.trees cell_tree
  pub acted : new.now.trees acted_tree ≡ old.now.trees acted_tree

-- the trees hold this, and nothing else in these tables
pub record Holds (trees : Trees) (contents : Contents) : Type 0 where
  -- the list of tables is that of a store of the version, so an open finds that schema
  pub catalog : Lists (trees catalog_tree) (store_schema (version_of contents.acted))
  pub meta : trees meta_tree ≡ meta_rows contents.title
  pub entries : trees entry_tree ≡ entry_rows 0 contents.bodies
  pub cells : HoldsCells (trees cell_tree) contents.cells
  pub acted : HoldsActed (trees acted_tree) contents.acted
  -- each hop has an entry of its own
  pub placed : ArePlaced (acts_in contents.acted) (length contents.bodies)

-- between two transactions
pub record Keeps (s : State) (contents : Contents) : Type 0 where
  pub is_open : IsTrue s.is_open
  pub schema : s.now.schema ≡ store_schema (version_of contents.acted)
  pub tables : Holds s.committed.trees contents

-- a table was made, with no row, and those before it are as they were
pub record Makes (old new : State) (before after : Schema) (tree : ℕ) : Type 0 where
  pub shown : Shows old new new.now old.committed true
  pub schema : new.now.schema ≡ after
  pub empty : new.now.trees tree ≡ []
  pub sound : IsDatabase new.now
  pub others : KeepsRows before.tables old.now.trees new.now.trees

-- the tables of a version were made, with no row
pub record MakesTables (old new : State) (version : StoreVersion) : Type 0 where
  pub shown : Shows old new new.now old.committed true
  pub schema : new.now.schema ≡ store_schema version
  pub catalog : Lists (new.now.trees catalog_tree) (store_schema version)
  pub empty : (new.now.trees meta_tree ≡ []) × (new.now.trees entry_tree ≡ [])
      × (new.now.trees cell_tree ≡ [])
  pub acted : HoldsActed (new.now.trees acted_tree) (no_acts version)

-- a store of version 1 has got the fourth table, with these hops
pub record AddsTable (old new : State) (acts : List Acted) : Type 0 where
  pub shown : Shows old new new.now old.committed true
  pub schema : new.now.schema ≡ store_schema Two
  pub catalog : Lists (new.now.trees catalog_tree) (store_schema Two)
  pub meta : new.now.trees meta_tree ≡ old.now.trees meta_tree
  pub entries : new.now.trees entry_tree ≡ old.now.trees entry_tree
  pub cells : new.now.trees cell_tree ≡ old.now.trees cell_tree
  pub acted : HoldsActs (new.now.trees acted_tree) acts
