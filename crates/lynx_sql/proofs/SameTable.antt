-- Tables and indexes with the same parts are the same, and have these parts.
use Rattle.std.proofs.Common.{◌≡◌, ℕ, List, [], ◌∷◌, codes, true, Some, None, refl, sym, ap, ◌∙◌, Option}
use Rattle.sqlite.specs.Kind.{Kind}
use Rattle.sqlite_tied.specs.Compute.{everything}
use Rattle.sqlite_value.specs.Keys.{plain}
use Rattle.sqlite_value.specs.declared.keys.Order.{Order}
use Rattle.sqlite_schema.specs.declared.schema.Column.{Column}
use Rattle.sqlite_schema.specs.declared.schema.Table.{Table}
use Rattle.sqlite_schema.specs.declared.schema.Index.{Index}
use Rattle.lynx_sql.specs.Tables.{key_column, column_of, numbered_table, cell, cell_index, acted, place_index, hop_index, IsNamed, IsKeyed, IsPlainTable}

index_name : codes "sqlite_autoindex_cell_1" ≡ cell_index.name
unfolding everything
index_name = refl

pub same_index : (index : Index) → (index.name ≡ codes "sqlite_autoindex_cell_1") × (index.tree ≡ 3) × (index.table ≡ 2)
    → (index.columns ≡ 1 ∷ 2 ∷ []) × (index.order ≡ plain) × (index.is_unique ≡ true) → index ≡ cell_index
same_index index named over =
    λ i. record { name = (named.0 ∙ index_name) i; tree = named.1 i; table = named.2 i; columns = over.0 i; order = over.1 i; is_unique = over.2 i }

pub parts_of_index : (index : Index) → index ≡ cell_index
    → ((index.name ≡ codes "sqlite_autoindex_cell_1") × (index.tree ≡ 3) × (index.table ≡ 2))
    × ((index.columns ≡ 1 ∷ 2 ∷ []) × (index.order ≡ plain) × (index.is_unique ≡ true))
parts_of_index index is = (
  (ap (λ it. it.name) is ∙ sym index_name, ap (λ it. it.tree) is, ap (λ it. it.table) is),
  (ap (λ it. it.columns) is, ap (λ it. it.order) is, ap (λ it. it.is_unique) is),
)

same_parts : (table : Table) (tree : ℕ) (name : List ℕ) (shape : List Column) (key : Option ℕ) (primary : List ℕ) (uniques : List (List ℕ)) (orders : List Order)
    → IsNamed table tree name → table.columns ≡ shape → IsKeyed table key primary uniques orders → IsPlainTable table
    → table ≡ record cell { name = name; tree = tree; columns = shape; key = key; primary = primary; uniques = uniques; orders = orders }
same_parts table tree name shape key primary uniques orders named columns keyed plainly =
    λ i. record {
      name = named.name_is i;
      tree = named.tree_is i;
      columns = columns i;
      key = keyed.key_is i;
      primary = keyed.primary_is i;
      uniques = keyed.uniques_are i;
      orders = keyed.orders_are i;
      checks = plainly.checks i;
      references = plainly.references i;
      computed = plainly.computed i;
      stamps = plainly.stamps i;
      is_counted = plainly.is_counted i;
    }

pub same_numbered : (table : Table) (tree : ℕ) (name key other : List ℕ) (kind : Kind) → IsNamed table tree name
    → table.columns ≡ key_column key ∷ column_of other kind ∷ [] → IsKeyed table (Some 0) (0 ∷ []) [] [] → IsPlainTable table
    → table ≡ numbered_table tree name key other kind
same_numbered table tree name key other kind = same_parts table tree name _ _ _ _ _

pub same_cell : (table : Table) → IsNamed table 2 (codes "cell") → table.columns ≡ cell.columns
    → IsKeyed table None (1 ∷ 2 ∷ []) cell.uniques cell.orders → IsPlainTable table → table ≡ cell
same_cell table = same_parts table 2 (codes "cell") _ _ _ _ _

pub same_acted : (table : Table) → IsNamed table 4 (codes "acted") → table.columns ≡ acted.columns
    → IsKeyed table None (1 ∷ 2 ∷ 3 ∷ []) acted.uniques acted.orders → IsPlainTable table → table ≡ acted
same_acted table = same_parts table 4 (codes "acted") _ _ _ _ _

place_name : codes "sqlite_autoindex_acted_1" ≡ place_index.name
unfolding everything
place_name = refl

hop_name : codes "sqlite_autoindex_acted_2" ≡ hop_index.name
unfolding everything
hop_name = refl

pub same_place : (index : Index) → (index.name ≡ codes "sqlite_autoindex_acted_1") × (index.tree ≡ 5) × (index.table ≡ 4) × (index.order ≡ plain) × (index.is_unique ≡ true)
    → index.columns ≡ 4 ∷ [] → index ≡ place_index
same_place index is over =
    λ i. record { name = (is.0 ∙ place_name) i; tree = is.1 i; table = is.2 i; columns = over i; order = is.3 i; is_unique = is.4 i }

pub same_hop : (index : Index) → (index.name ≡ codes "sqlite_autoindex_acted_2") × (index.tree ≡ 6) × (index.table ≡ 4) × (index.order ≡ plain) × (index.is_unique ≡ true)
    → index.columns ≡ 1 ∷ 2 ∷ 3 ∷ [] → index ≡ hop_index
same_hop index is over =
    λ i. record { name = (is.0 ∙ hop_name) i; tree = is.1 i; table = is.2 i; columns = over i; order = is.3 i; is_unique = is.4 i }

pub parts_of_place : (index : Index) → index ≡ place_index
    → ((index.name ≡ codes "sqlite_autoindex_acted_1") × (index.tree ≡ 5) × (index.table ≡ 4) × (index.order ≡ plain) × (index.is_unique ≡ true))
    × (index.columns ≡ 4 ∷ [])
parts_of_place index is = (
  (ap (λ it. it.name) is ∙ sym place_name, ap (λ it. it.tree) is, ap (λ it. it.table) is, ap (λ it. it.order) is, ap (λ it. it.is_unique) is),
  ap (λ it. it.columns) is,
)

pub parts_of_hop : (index : Index) → index ≡ hop_index
    → ((index.name ≡ codes "sqlite_autoindex_acted_2") × (index.tree ≡ 6) × (index.table ≡ 4) × (index.order ≡ plain) × (index.is_unique ≡ true))
    × (index.columns ≡ 1 ∷ 2 ∷ 3 ∷ [])
parts_of_hop index is = (
  (ap (λ it. it.name) is ∙ sym hop_name, ap (λ it. it.tree) is, ap (λ it. it.table) is, ap (λ it. it.order) is, ap (λ it. it.is_unique) is),
  ap (λ it. it.columns) is,
)
