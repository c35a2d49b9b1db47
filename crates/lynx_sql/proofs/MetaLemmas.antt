-- What the insert of a text of `meta` does.
use Rattle.std.proofs.Common.{◌≡◌, ◌⊎◌, inl, inr, ℕ, pos, List, [], ◌∷◌, true, false, Some, None, Ok, Err, Result, OnOk, IsTrue, refl, sym, ap, subst, ◌∙◌, arith}
use Rattle.sqlite.specs.declared.types.Value.TheVariants.{Null, Int, Text}
use Rattle.sqlite.specs.Order.{Row}
use Rattle.sqlite.specs.Source.TheVariants.{Values}
use Rattle.sqlite.specs.Command.TheVariants.{Insert}
use Rattle.sqlite.specs.Edit.{edit_of, edited}
use Rattle.sqlite.specs.Rowids.TheVariants.{Chosen}
use Rattle.sqlite.specs.Does.{Tally, Does}
use Rattle.sqlite.specs.Rows.{Written}
use Rattle.sqlite.specs.Tree.{Trees, put_row}
use Rattle.sqlite.specs.declared.error.Error.{Error}
use Rattle.sqlite.specs.Listing.{understood}
use Rattle.sqlite.specs.Effect.{Database}
use Rattle.sqlite.specs.State.{State, Shows, mode_of, Writes, Executes, ExecutesInside}
use Rattle.sqlite.proofs.Callers.{statement_of, runs_as}
use Rattle.sqlite_trees.specs.Objects.{catalog_tree}
use Rattle.lynx_sql.specs.declared.version.StoreVersion.{StoreVersion}
use Rattle.lynx_sql.specs.Tables.{meta, store_schema, meta_tree}
use Rattle.lynx_sql.specs.Contents.{Title}
use Rattle.lynx_sql.proofs.RowLemmas.{lower_id}
use Rattle.lynx_sql.specs.Rows.{meta_row, meta_rows}
use Rattle.lynx_sql.specs.Texts.{meta_insert_text}
use Rattle.lynx_sql.specs.Steps.{GoesOn, AddsText, WritesTitle}
use Rattle.lynx_sql.proofs.Parts.{cast_null, cast_int, went, same_value}
use Rattle.lynx_sql.proofs.Understood.{insert_terms, meta_insert_is, meta_insert_plain}
use Rattle.lynx_sql.proofs.Versions.{step_in, no_index_of_catalog, no_index_of_acted}

pub adds : (old new : State) (version : StoreVersion) (id : ℕ) (text : List ℕ) (count : ℕ) → old.now.schema ≡ store_schema version
    → ExecutesInside 0 meta_insert_text (Int (pos id) ∷ Text text ∷ []) old new (Ok count) → AddsText old new id text
adds old new version id text count has h =
    let params : Row = Int (pos id) ∷ Text text ∷ [] in
    let db = old.now.trees in
    let command = Insert 0 (Values insert_terms 3) in
    let w = runs_as meta_insert_text params old new (store_schema version) has command (meta_insert_is version) (meta_insert_plain version) count h.0 in
    let sql = statement_of meta_insert_text (understood (store_schema version) meta_insert_text) in
    let done = went (subst (λ s. Does old.step_limit (mode_of old) params (record old.now { schema = s }) sql None command (Ok (w.tally, new.now))) has w.changed) in
    let now = ap (λ (p : Tally × Database). p.1) (same_value (went (went done.2).2).2) in
    let given = went done.1 in
    let written = went (went given.2).2 in
    let counted = went written.2 in
    let trees : done.0.trees ≡ written.0 = ap (λ (it : Written). it.trees) (same_value counted.2) ∙ same_value counted.1 in
    let step = step_in version _ db written.0 (edit_of db meta [] Chosen 0 given.0) written.1 in
    let edit : edited db (edit_of db meta [] Chosen 0 given.0) ≡ put_row (meta_row id text) (db 0) = ap (λ all. edited db (edit_of db meta [] Chosen 0 all)) given.1.1 ∙ rw (cast_null, cast_int) refl in
    let at = λ (t : ℕ). ap (λ (d : Database). d.trees t) now ∙ ap (λ (all : Trees). all t) trees in
    record {
      on = record { shown = h.1; schema = ap (λ (d : Database). d.schema) now ∙ sym has; catalog = at catalog_tree ∙ step.others catalog_tree (λ e. omega arith) (no_index_of_catalog version) };
      meta = at 0 ∙ step.rows ∙ edit;
      entries = at 1 ∙ step.tables.1.0 (λ e. omega arith);
      cells = at 2 ∙ step.tables.1.1.0 (λ e. omega arith);
      acted = at 4 ∙ step.others 4 (λ e. omega arith) (no_index_of_acted version);
    }

pub adds_or_fails : (old new : State) (version : StoreVersion) (id : ℕ) (text : List ℕ) (r : Result ℕ Error) → old.now.schema ≡ store_schema version
    → ExecutesInside 0 meta_insert_text (Int (pos id) ∷ Text text ∷ []) old new r → OnOk r (AddsText old new id text)
adds_or_fails old new version id text (Err e) has h = tt
adds_or_fails old new version id text (Ok count) has h = adds old new version id text count has h

pub goes_on_then : (a b c : State) → GoesOn a b → GoesOn b c → GoesOn a c
goes_on_then a b c p q = record {
  shown = record {
    was_open = p.shown.was_open;
    is_open = q.shown.is_open;
    now_is = refl;
    committed_is = q.shown.committed_is ∙ p.shown.committed_is;
    mode = q.shown.mode;
  };
  schema = q.schema ∙ p.schema;
  catalog = q.catalog ∙ p.catalog;
}

-- the rows of three texts, one after another
rows_put : (title : Title) → put_row (meta_row 3 title.set) (put_row (meta_row 2 title.server) (put_row (meta_row 1 title.version) [])) ≡ meta_rows title
rows_put title = rw (lower_id 1 2 (omega arith)) (rw (lower_id 1 3 (omega arith)) (rw (lower_id 2 3 (omega arith)) refl))

pub title_written : (old one two new : State) (version : StoreVersion) (title : Title) → IsTrue old.in_transaction → old.now.schema ≡ store_schema version → old.now.trees meta_tree ≡ []
    → (IsTrue old.in_transaction → old.now.schema ≡ store_schema version → AddsText old one 1 title.version)
    → (IsTrue one.in_transaction → one.now.schema ≡ store_schema version → AddsText one two 2 title.server)
    → (IsTrue two.in_transaction → two.now.schema ≡ store_schema version → AddsText two new 3 title.set)
    → WritesTitle old new title
title_written old one two new version title inside has none first second third =
    let a = first inside has in
    let b = second a.on.shown.mode (a.on.schema ∙ has) in
    let c = third b.on.shown.mode (b.on.schema ∙ a.on.schema ∙ has) in
    record {
      on = goes_on_then old two new (goes_on_then old one two a.on b.on) c.on;
      meta = c.meta
          ∙ ap (put_row (meta_row 3 title.set)) (b.meta ∙ ap (put_row (meta_row 2 title.server)) (a.meta ∙ ap (put_row (meta_row 1 title.version)) none))
          ∙ rows_put title;
      entries = c.entries ∙ b.entries ∙ a.entries;
      cells = c.cells ∙ b.cells ∙ a.cells;
      acted = c.acted ∙ b.acted ∙ a.acted;
    }
