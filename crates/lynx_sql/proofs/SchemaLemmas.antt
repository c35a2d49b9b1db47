-- The list of tables tells the schema.
use Rattle.std.proofs.Common.{◌≡◌, ℕ, List, IsTrue, map, sym, subst}
use Rattle.sqlite.specs.Effect.{Database as Found}
use Rattle.sqlite.specs.Order.{Row}
use Rattle.sqlite.specs.Schema.{Schema}
use Rattle.sqlite.specs.State.{State, IsLive}
use Rattle.sqlite_catalog.specs.Listing.{Lists}
use Rattle.sqlite_catalog.proofs.ReadLemmas.{read_once, reads}
use Rattle.sqlite_trees.specs.Objects.{catalog_tree}
use Rattle.lynx_sql.specs.Contents.{Contents}
use Rattle.lynx_sql.specs.Tables.{store_schema}
use Rattle.lynx_sql.specs.Acts.{version_of}
use Rattle.lynx_sql.specs.Steps.{Holds, Keeps}

pub one_schema : (objects : List Row) (a b : Schema) → Lists objects a → Lists objects b → a ≡ b
one_schema objects a b p q = let r = reads objects a p in read_once _ a b r.tables r.indexes r.views (reads objects b q)

-- an open connection over tables that hold this has the schema of a store, and keeps it
pub keeps_found : (s : State) (contents : Contents) → IsTrue s.is_open → IsLive s → s.now ≡ s.committed → Holds s.committed.trees contents
    → Keeps s contents
keeps_found s contents up live settled h =
    let found = subst (λ (d : Found). Lists (d.trees catalog_tree) (store_schema (version_of contents.acted))) (sym settled) h.catalog in
    record { is_open = up; schema = one_schema (s.now.trees catalog_tree) _ _ (live up).0.lists found; tables = h }
