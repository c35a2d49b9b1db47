-- What is known once a query of a store has shown its rows.
use Rattle.std.proofs.Common.{◌≡◌, ℕ, ◌<◌, List, [], map, IsTrue, sym, ap, subst, ◌∙◌, arith}
use Rattle.std.specs.List.{AllByRecursion}
use Rattle.sqlite_trees.specs.Tree.{IsTable, rowid}
use Rattle.sqlite_trees.specs.View.{is_int}
use Rattle.sqlite_trees.specs.Objects.{catalog_tree}
use Rattle.sqlite_catalog.specs.Listing.{Lists, IsSound}
use Rattle.sqlite.specs.Order.{Row}
use Rattle.sqlite.specs.Effect.{Database as Found}
use Rattle.sqlite.specs.Store.{Ghosts}
use Rattle.sqlite.specs.Held.{Held, state}
use Rattle.sqlite.specs.Program.{overlay}
use Rattle.sqlite.specs.Query.{IsAnswer}
use Rattle.sqlite.specs.State.{IsUnchanged}
use Rattle.lynx_sql.specs.Contents.{Title}
use Rattle.lynx_sql.specs.declared.acts.Acted.{Acted}
use Rattle.lynx_sql.specs.declared.version.StoreVersion.TheVariants.{Two}
use Rattle.lynx_sql.specs.Acts.{HoldsActs, ArePlaced, shown_act}
use Rattle.lynx_sql.specs.Tables.{store_schema, acted_tree, cell_tree, entry_tree, meta_tree}
use Rattle.lynx_sql.specs.Rows.{meta_rows, shown_meta, entry_rows, shown_entries}
use Rattle.lynx_sql.specs.Cells.{HoldsCells}
use Rattle.lynx_sql.specs.Shown.{AreCells, cells_in}
use Rattle.lynx_sql.specs.Reading.{IsStore, SameTables}
use Rattle.lynx_sql.specs.Rising.{IsRising}
use Rattle.lynx_sql.proofs.Understood.{titles_query, entries_query, cells_query, places_query}
use Rattle.lynx_sql.proofs.ReadLemmas.{HasShown, OnlyReads, plain_in, shown_unchanged}
use Rattle.lynx_sql.proofs.Versions.{one_version}
use Rattle.lynx_sql.proofs.StoredBack.{title_back, entries_back}
use Rattle.lynx_sql.proofs.CellsBack.{cells_held}
use Rattle.lynx_sql.proofs.Rises.{tables_rise, acts_rise}
use Rattle.lynx_sql.proofs.ActsRead.{acts_held}

module _ {S : Type 0} (g : Ghosts S) (before after : Held S) (text : List ℕ) (rows : List Row) (plain : OnlyReads (state g before) text)
    (it : HasShown text (state g before) (state g after) rows) where
  pub unchanged : IsUnchanged (state g before) (state g after)
  unchanged = shown_unchanged text [] (state g before) (state g after) rows (plain_in (state g before) text it.2 plain) it.3

  pub same_tables : SameTables (state g before) (state g after)
  same_tables = (unchanged.0.now_is, unchanged.0.committed_is)

  pub same_committed : (state g after).committed ≡ (state g before).committed
  same_committed = unchanged.0.committed_is

  -- what the transaction sees is what is committed
  seen : (state g before).now ≡ (state g before).committed
  seen = it.1 unchanged.0.was_open

  pub sound : IsSound (store_schema it.2.version) (state g before).committed.trees
  sound = subst (λ schema. IsSound schema (state g before).committed.trees)
      (sym (ap (λ (d : Found). d.schema) seen) ∙ it.2.is) (it.0 unchanged.0.was_open).1

  pub is_store : IsStore (state g after)
  is_store = record {
    is_open = unchanged.0.is_open;
    version = it.2.version;
    schema = ap (λ (d : Found). d.schema) unchanged.0.now_is ∙ it.2.is;
    catalog = subst (λ (d : Found). Lists (d.trees catalog_tree) (store_schema it.2.version)) (sym same_committed) sound.lists;
  }

  module _ (rising : IsTrue (state g before).is_open → IsRising (g.view before.store)) where
    rise : (t : ℕ) → t < 3 → IsTable ((state g before).committed.trees t) × AllByRecursion (λ r. IsTrue (is_int (rowid r))) ((state g before).committed.trees t)
    rise = tables_rise (g.view before.store) (rising unchanged.0.was_open) it.2.version sound.lists

    pub title_kept : IsAnswer titles_query (overlay (state g before).now.trees []) [] rows → (title : Title) → rows ≡ shown_meta title
        → (state g after).committed.trees meta_tree ≡ meta_rows title
    title_kept answer title is =
        ap (λ (d : Found). d.trees meta_tree) same_committed
        ∙ title_back it.2.version (state g before).committed.trees sound rise rows title (subst (λ (d : Found). IsAnswer titles_query (overlay d.trees []) [] rows) seen answer) is

    pub entries_kept : IsAnswer entries_query (overlay (state g before).now.trees []) [] rows → (bodies : List (List ℕ)) → rows ≡ shown_entries 0 bodies
        → (state g after).committed.trees entry_tree ≡ entry_rows 0 bodies
    entries_kept answer bodies is =
        ap (λ (d : Found). d.trees entry_tree) same_committed
        ∙ entries_back it.2.version (state g before).committed.trees sound rise rows bodies (subst (λ (d : Found). IsAnswer entries_query (overlay d.trees []) [] rows) seen answer) is

    pub cells_kept : IsAnswer cells_query (overlay (state g before).now.trees []) [] rows → AreCells rows → HoldsCells ((state g after).committed.trees cell_tree) (cells_in rows)
    cells_kept answer are =
        subst (λ (d : Found). HoldsCells (d.trees cell_tree) (cells_in rows)) (sym same_committed)
        (cells_held it.2.version (state g before).committed.trees sound (rise 2 (omega arith)) rows (subst (λ (d : Found). IsAnswer cells_query (overlay d.trees []) [] rows) seen answer) are)

    pub acts_kept : (state g before).now.schema ≡ store_schema Two → IsAnswer places_query (overlay (state g before).now.trees []) [] rows
        → (acts : List Acted) (places : ℕ) → ArePlaced acts places → rows ≡ map shown_act acts
        → HoldsActs ((state g after).committed.trees acted_tree) acts
    acts_kept second answer acts places placed is =
        let sure = subst (λ v. IsSound (store_schema v) (state g before).committed.trees) (one_version it.2.version Two (sym it.2.is ∙ second)) sound in
        subst (λ (d : Found). HoldsActs (d.trees acted_tree) acts) (sym same_committed)
        (acts_held (state g before).committed.trees sure (acts_rise (g.view before.store) (rising unchanged.0.was_open) sure.lists) rows
        (subst (λ (d : Found). IsAnswer places_query (overlay d.trees []) [] rows) seen answer) acts places placed is)
