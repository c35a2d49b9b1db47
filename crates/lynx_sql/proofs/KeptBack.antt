-- What a store keeps once all its rows were read.
use Rattle.std.proofs.Common.{◌≡◌, ℕ, length, IsTrue, Some, None, Option, List, map, sym, ap, subst, ◌∙◌}
use Rattle.std.specs.Prelude.{Vec}
use Rattle.std.specs.declared.alloc.Global.{Global}
use Rattle.sqlite.specs.Order.{Row}
use Rattle.sqlite.specs.Effect.{Database as Found}
use Rattle.sqlite.specs.State.{State}
use Rattle.sqlite_catalog.specs.Listing.{Lists}
use Rattle.sqlite_trees.specs.Objects.{catalog_tree}
use Rattle.lynx_sql.specs.declared.acts.Acted.{Acted}
use Rattle.lynx_sql.specs.declared.version.StoreVersion.TheVariants.{One, Two}
use Rattle.lynx_sql.specs.Contents.{Contents}
use Rattle.lynx_sql.specs.Tables.{store_schema, acted_tree, cell_tree, entry_tree, meta_tree}
use Rattle.lynx_sql.specs.Rows.{meta_rows, entry_rows}
use Rattle.lynx_sql.specs.Cells.{HoldsCells}
use Rattle.lynx_sql.specs.Acts.{HoldsActs, HoldsActed, ShowActed, ArePlaced, acts_in, version_of, shown_act}
use Rattle.lynx_sql.specs.Reading.{IsStore, SameTables}
use Rattle.lynx_sql.specs.Steps.{Keeps, Holds}
use Rattle.lynx_sql.proofs.Versions.{one_version}

pub keeps_over : (old new : State) (contents : Contents) → IsTrue new.is_open → SameTables old new → Keeps old contents → Keeps new contents
keeps_over old new contents up same keeps = record {
  is_open = up;
  schema = ap (λ (d : Found). d.schema) same.0 ∙ keeps.schema;
  tables = subst (λ (d : Found). Holds d.trees contents) (sym same.1) keeps.tables;
}

-- the hops were read first, then the title, the entries and the cells
pub kept_back : (a b c new : State) (contents : Contents) → IsStore new → (a.now.schema ≡ store_schema (version_of contents.acted))
    → HoldsActed (a.committed.trees acted_tree) contents.acted → b.committed.trees meta_tree ≡ meta_rows contents.title → c.committed.trees entry_tree ≡ entry_rows 0 contents.bodies
    → HoldsCells (new.committed.trees cell_tree) contents.cells → ArePlaced (acts_in contents.acted) (length contents.bodies)
    → SameTables a b → SameTables b c → SameTables c new → Keeps new contents
kept_back a b c new contents store first acted title entries cells placed ab bc cn =
    let schema : new.now.schema ≡ store_schema (version_of contents.acted) =
    ap (λ (d : Found). d.schema) (cn.0 ∙ bc.0 ∙ ab.0) ∙ first in
    let version = one_version store.version (version_of contents.acted) (sym store.schema ∙ schema) in
    record {
      is_open = store.is_open;
      schema = schema;
      tables = record {
        catalog = subst (λ v. Lists (new.committed.trees catalog_tree) (store_schema v)) version store.catalog;
        meta = ap (λ (d : Found). d.trees meta_tree) (cn.1 ∙ bc.1) ∙ title;
        entries = ap (λ (d : Found). d.trees entry_tree) cn.1 ∙ entries;
        cells = cells;
        acted = subst (λ (d : Found). HoldsActed (d.trees acted_tree) contents.acted) (sym (cn.1 ∙ bc.1 ∙ ab.1)) acted;
        placed = placed;
      };
    }

-- a store of version 1 has no hops to show
pub first_shown : (s : State) (contents : Contents) → s.now.schema ≡ store_schema One → Keeps s contents → ShowActed None contents.acted
first_shown s contents has keeps = go contents.acted (one_version (version_of contents.acted) One (sym keeps.schema ∙ has))
  where
    go : (acted : Option (List Acted)) → version_of acted ≡ One → ShowActed None acted
    go None is = tt
    go (Some acts) is = absurd (let e = is in cc)

pub first_back : (s : State) (acted : Option (List Acted)) → s.now.schema ≡ store_schema One → ShowActed None acted
    → HoldsActed (s.committed.trees acted_tree) acted × (s.now.schema ≡ store_schema (version_of acted))
first_back s None has shown = (tt, has)
first_back s (Some acts) has shown = absurd shown

pub second_shown : (s : State) (contents : Contents) (rows : Vec Row Global) → s.now.schema ≡ store_schema Two → Keeps s contents
    → rows.items ≡ map shown_act (acts_in contents.acted) → ShowActed (Some rows) contents.acted
second_shown s contents rows has keeps shown = go contents.acted (one_version (version_of contents.acted) Two (sym keeps.schema ∙ has)) shown
  where
    go : (acted : Option (List Acted)) → version_of acted ≡ Two → rows.items ≡ map shown_act (acts_in acted) → ShowActed (Some rows) acted
    go None is shown = absurd (let e = is in cc)
    go (Some acts) is shown = shown

pub second_back : (s : State) (acted : Option (List Acted)) (rows : Vec Row Global) (places : ℕ) → s.now.schema ≡ store_schema Two
    → ((acts : List Acted) (places : ℕ) → ArePlaced acts places → rows.items ≡ map shown_act acts → HoldsActs (s.committed.trees acted_tree) acts)
    → ArePlaced (acts_in acted) places → ShowActed (Some rows) acted
    → HoldsActed (s.committed.trees acted_tree) acted × (s.now.schema ≡ store_schema (version_of acted))
second_back s None rows places has back placed shown = absurd shown
second_back s (Some acts) rows places has back placed shown = (back acts places placed shown, has)
