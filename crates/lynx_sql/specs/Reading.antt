-- What is known of a store whose rows were read.
use Rattle.std.specs.Prelude.{◌≡◌, IsTrue, List}
use Rattle.sqlite.specs.Order.{Row}
use Rattle.sqlite.specs.State.{State}
use Rattle.sqlite_catalog.specs.Listing.{Lists}
use Rattle.sqlite_trees.specs.Objects.{catalog_tree}
use Rattle.lynx_sql.specs.declared.reading.StoredRows.{StoredRows}
use Rattle.lynx_sql.specs.Contents.{Contents}
use Rattle.lynx_sql.specs.Tables.{store_schema}
use Rattle.lynx_sql.specs.declared.version.StoreVersion.{StoreVersion}
use Rattle.lynx_sql.specs.Acts.{ShowActed}
use Rattle.lynx_sql.specs.Rows.{shown_meta, shown_entries}
use Rattle.lynx_sql.specs.Shown.{cells_in, AreCells}

-- an open connection between two transactions, to a database with the tables of a store
pub record IsStore (s : State) : Type 0 where
  pub is_open : IsTrue s.is_open
  pub version : StoreVersion
  pub schema : s.now.schema ≡ store_schema version
  pub catalog : Lists (s.committed.trees catalog_tree) (store_schema version)

-- both see the same, and have committed the same
abbrev pub SameTables : State → State → Type 0
SameTables old new = (new.now ≡ old.now) × (new.committed ≡ old.committed)

-- the rows show this
pub record ShowRows (rows : StoredRows) (contents : Contents) : Type 0 where
  pub title : rows.title.items ≡ shown_meta contents.title
  pub entries : rows.entries.items ≡ shown_entries 0 contents.bodies
  pub cells : cells_in rows.cells.items ≡ contents.cells
  pub acted : ShowActed rows.acted contents.acted
