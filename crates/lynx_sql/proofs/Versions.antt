-- The schemas of both versions.
use Rattle.std.proofs.Common.{◌≡◌, ℕ, List, [], length, Ok, refl, ap, arith}
use Rattle.sqlite.specs.Order.{Row}
use Rattle.sqlite.specs.Schema.{Schema}
use Rattle.sqlite_trees.specs.Objects.{catalog_tree}
use Rattle.sqlite_schema.specs.declared.schema.Keys.{Keys}
use Rattle.sqlite.specs.Tree.{Trees}
use Rattle.sqlite.proofs.Callers.{one_step}
use Rattle.sqlite_rules.specs.Action.{works, Writes}
use Rattle.sqlite_rules.specs.Edit.{Edit, IsNoIndex, Applies, taken_by}
use Rattle.lynx_sql.specs.declared.version.StoreVersion.{StoreVersion}
use Rattle.lynx_sql.specs.declared.version.StoreVersion.TheVariants.{One, Two}
use Rattle.lynx_sql.specs.Tables.{store_schema}

-- no foreign key acts
no_works : (version : StoreVersion) (keys : Keys) (tree : ℕ) (gone news : List Row) → works (store_schema version) keys 0 tree gone news ≡ []
no_works One keys tree gone news = refl
no_works Two keys tree gone news = refl

-- a step of a statement in a store of either version
pub step_in : (version : StoreVersion) (keys : Keys) (db next : Trees) (edit : Edit) → Writes (store_schema version) keys db edit (Ok next)
    → Applies (store_schema version) keys db edit next
step_in version keys db next edit = one_step (store_schema version) keys db next edit (no_works version keys edit.table.tree (taken_by db edit) edit.news)

pub no_index_of_catalog : (version : StoreVersion) → IsNoIndex (store_schema version) catalog_tree
no_index_of_catalog One = ((λ e. omega arith), tt)
no_index_of_catalog Two = ((λ e. omega arith), ((λ e. omega arith), ((λ e. omega arith), tt)))

-- the tree of `acted` is no index, nor is it one in a store of version 1
pub no_index_of_acted : (version : StoreVersion) → IsNoIndex (store_schema version) 4
no_index_of_acted One = ((λ e. omega arith), tt)
no_index_of_acted Two = ((λ e. omega arith), ((λ e. omega arith), ((λ e. omega arith), tt)))

-- a schema is that of one version
pub one_version : (a b : StoreVersion) → store_schema a ≡ store_schema b → a ≡ b
one_version One One same = refl
one_version One Two same = absurd (let n : 3 ≡ 4 = ap (λ (s : Schema). length s.tables) same in omega arith)
one_version Two One same = absurd (let n : 4 ≡ 3 = ap (λ (s : Schema). length s.tables) same in omega arith)
one_version Two Two same = refl
