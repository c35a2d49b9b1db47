-- The tables of a store rise.
use Rattle.std.proofs.Common.{◌≡◌, ℕ, zero, suc, ◌<◌, ◌+◌, IsTrue, subst, arith}
use Rattle.std.specs.List.{AllByRecursion}
use Rattle.sqlite_trees.specs.Tree.{IsTable, rowid}
use Rattle.sqlite_trees.specs.View.{View, IsShaped, is_int}
use Rattle.sqlite_trees.specs.Objects.{catalog_tree}
use Rattle.sqlite_trees.specs.declared.store.Shape.TheVariants.{Table}
use Rattle.sqlite_catalog.specs.Listing.{Lists}
use Rattle.sqlite_catalog.proofs.LayoutLemmas.{laid_out}
use Rattle.sqlite_schema.specs.Rules.{IsLaidOut}
use Rattle.lynx_sql.specs.declared.version.StoreVersion.{StoreVersion}
use Rattle.lynx_sql.specs.declared.version.StoreVersion.TheVariants.{Two}
use Rattle.lynx_sql.specs.Tables.{store_schema}
use Rattle.lynx_sql.specs.Rising.{IsRising}

shapes_of : (v : View) → IsRising v → (version : StoreVersion) → Lists (v.committed catalog_tree) (store_schema version) → IsLaidOut (store_schema version) v.committed_shape
shapes_of v rising version lists =
    laid_out rising.listed (subst (λ s. IsShaped s (v.committed catalog_tree)) rising.listed.itself.0 (rising.ordered catalog_tree)) lists.listed

pub tables_rise : (v : View) → IsRising v → (version : StoreVersion) → Lists (v.committed catalog_tree) (store_schema version) → (t : ℕ) → t < 3
    → IsTable (v.committed t) × AllByRecursion (λ r. IsTrue (is_int (rowid r))) (v.committed t)
tables_rise v rising version lists t low = go t low
  where
    shapes : IsLaidOut (store_schema version) v.committed_shape
    shapes = shapes_of v rising version lists

    go : (t : ℕ) → t < 3 → IsTable (v.committed t) × AllByRecursion (λ r. IsTrue (is_int (rowid r))) (v.committed t)
    go zero low = subst (λ s. IsShaped s (v.committed 0)) shapes.tables.0 (rising.ordered 0)
    go (suc zero) low = subst (λ s. IsShaped s (v.committed 1)) shapes.tables.1.0 (rising.ordered 1)
    go (suc (suc zero)) low = subst (λ s. IsShaped s (v.committed 2)) shapes.tables.1.1.0 (rising.ordered 2)
    go (suc (suc (suc t))) low = absurd (omega arith)

-- the rows of the hops rise too
pub acts_rise : (v : View) → IsRising v → Lists (v.committed catalog_tree) (store_schema Two)
    → IsTable (v.committed 4) × AllByRecursion (λ r. IsTrue (is_int (rowid r))) (v.committed 4)
acts_rise v rising lists = subst (λ s. IsShaped s (v.committed 4)) (shapes_of v rising Two lists).tables.1.1.1.0 (rising.ordered 4)
