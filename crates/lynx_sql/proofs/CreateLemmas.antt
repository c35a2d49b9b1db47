-- What making the tables does.
use Rattle.std.proofs.Common.{◌≡◌, ◌⊎◌, inl, inr, ℕ, List, [], ◌∷◌, true, false, Some, None, Ok, Err, Result, OnOk, IsTrue, refl, sym, ap, subst, ◌∙◌, arith}
use Rattle.sqlite.specs.Table.{Table}
use Rattle.sqlite.specs.Schema.{Schema}
use Rattle.sqlite.specs.Compile.{table_defined_by}
use Rattle.sqlite.specs.Command.TheVariants.{CreateTable}
use Rattle.sqlite.specs.Change.{created, next_tree, KeepsRows}
use Rattle.sqlite.specs.Does.{Tally, Does, lacks_sequence}
use Rattle.sqlite.specs.Tree.{Trees}
use Rattle.sqlite.specs.declared.error.Error.{Error}
use Rattle.sqlite.specs.Listing.{understood}
use Rattle.sqlite.specs.Effect.{Database}
use Rattle.sqlite.specs.State.{State, Shows, mode_of, Writes, ExecutesInside}
use Rattle.sqlite.specs.Store.{Ghosts}
use Rattle.sqlite.specs.Held.{Held, state}
use Rattle.sqlite.proofs.Callers.{IsPlain, command_of, statement_of, runs_as}
use Rattle.lynx_cells.specs.Database.{cell_cmp, empty_database}
use Rattle.std.specs.FinMap as finite
use Rattle.std.proofs.lemmas.List.Sorted.{IsPermutation-refl}
use Rattle.sqlite.specs.Order.{Row}
use Rattle.lynx_sql.specs.declared.version.StoreVersion.{StoreVersion}
use Rattle.lynx_sql.specs.declared.version.StoreVersion.TheVariants.{One, Two}
use Rattle.lynx_sql.specs.Tables.{meta_text, entry_text, cell_text, acted_text, meta, entry, cell, acted, store_schema, no_schema, meta_schema, entry_schema, meta_tree}
use Rattle.lynx_sql.specs.Acts.{HoldsActs, HoldsActed, ArePlaced, acts_in, version_of, no_acts}
use Rattle.sqlite_catalog.specs.Listing.{Lists}
use Rattle.sqlite_trees.specs.Objects.{catalog_tree}
use Rattle.lynx_sql.specs.Contents.{Title, titled}
use Rattle.lynx_sql.specs.Cells.{HoldsCells}
use Rattle.lynx_sql.specs.Steps.{Makes, MakesTables, WritesTitle, Holds}
use Rattle.lynx_sql.proofs.Parts.{went, same_value}
use Rattle.lynx_sql.proofs.Understood.{meta_is, entry_is, cell_is, acted_is, meta_command, entry_command, cell_command, acted_command, meta_statement, entry_statement, cell_statement, acted_statement, meta_plain, entry_plain, cell_plain, acted_plain, meta_created, entry_created, cell_created, acted_created}

creates : (old new : State) (text : List ℕ) (schema : Schema) (table : Table) (count : ℕ) → old.now.schema ≡ schema → command_of (understood schema text) ≡ CreateTable
    → statement_of text (understood schema text) ≡ text → IsPlain (understood schema text) → table_defined_by text ≡ Ok table → lacks_sequence (created schema table) ≡ false
    → ExecutesInside 0 text [] old new (Ok count) → Makes old new schema (created schema table) (next_tree schema)
creates old new text schema table count has command statement plain is none h =
    let w = subst (λ t. Writes old new None CreateTable t [] count) statement (runs_as text [] old new schema has CreateTable command plain count h.0) in
    let all = went w.changed in
    let first = went all.1 in
    let made = first.1 in
    let both : Ok made.table ≡ Ok table = sym made.defined ∙ is in
    let same : made.table ≡ table = cc in
    let after : first.0.schema ≡ created schema table = made.is ∙ ap (λ s. created s made.table) has ∙ ap (created schema) same in
    let counted : lacks_sequence first.0.schema ≡ false = ap lacks_sequence after ∙ none in
    let now : new.now ≡ first.0 = ap (λ (p : Tally × Database). p.1) (same_value all.2) ∙ same_value (rw counted at first.2) in
    record {
      shown = h.1;
      schema = ap (λ (d : Database). d.schema) now ∙ after;
      empty = ap (λ (d : Database). d.trees (next_tree schema)) now ∙ subst (λ s. first.0.trees (next_tree s) ≡ []) has made.empty;
      sound = w.sound;
      others = subst (λ (d : Database). KeepsRows schema.tables old.now.trees d.trees) (sym now) (subst (λ s. KeepsRows s.tables old.now.trees first.0.trees) has made.others);
    }

pub makes_meta : (old new : State) (r : Result ℕ Error) → old.now.schema ≡ no_schema → ExecutesInside 0 meta_text [] old new r → OnOk r (Makes old new no_schema meta_schema 0)
makes_meta old new (Err e) has h = tt
makes_meta old new (Ok count) has h = creates old new meta_text no_schema meta count has meta_command meta_statement meta_plain meta_is refl h

pub makes_entry : (old new : State) (r : Result ℕ Error) → old.now.schema ≡ meta_schema → ExecutesInside 0 entry_text [] old new r → OnOk r (Makes old new meta_schema entry_schema 1)
makes_entry old new (Err e) has h = tt
makes_entry old new (Ok count) has h = creates old new entry_text meta_schema (record entry { tree = 0 }) count has entry_command entry_statement entry_plain entry_is refl h

pub makes_cell : (old new : State) (r : Result ℕ Error) → old.now.schema ≡ entry_schema → ExecutesInside 0 cell_text [] old new r → OnOk r (Makes old new entry_schema (store_schema One) 2)
makes_cell old new (Err e) has h = tt
makes_cell old new (Ok count) has h =
    let m = creates old new cell_text entry_schema (record cell { tree = 0 }) count has cell_command cell_statement cell_plain cell_is refl h in
    record { shown = m.shown; schema = m.schema ∙ cell_created; empty = m.empty; sound = m.sound; others = m.others }

pub makes_acted : (old new : State) (r : Result ℕ Error) → old.now.schema ≡ store_schema One → ExecutesInside 0 acted_text [] old new r
    → OnOk r (Makes old new (store_schema One) (store_schema Two) 4)
makes_acted old new (Err e) has h = tt
makes_acted old new (Ok count) has h =
    let m = creates old new acted_text (store_schema One) (record acted { tree = 0 }) count has acted_command acted_statement acted_plain acted_is refl h in
    record { shown = m.shown; schema = m.schema ∙ acted_created; empty = m.empty; sound = m.sound; others = m.others }

pub no_cells : (rows : _) → rows ≡ [] → HoldsCells rows empty_database
no_cells rows none = record { stored = []; rows_are = none; fit = tt; apart = tt; found = λ cell. finite.get-empty cell_cmp cell }

-- the three tables, one after another
pub all_made : (old one two last : State) → IsTrue old.in_transaction → old.now.schema ≡ no_schema
    → (IsTrue old.in_transaction → old.now.schema ≡ no_schema → Makes old one no_schema meta_schema 0)
    → (IsTrue one.in_transaction → one.now.schema ≡ meta_schema → Makes one two meta_schema entry_schema 1)
    → (IsTrue two.in_transaction → two.now.schema ≡ entry_schema → Makes two last entry_schema (store_schema One) 2)
    → MakesTables old last One
all_made old one two last inside has first second third =
    let a = first inside has in
    let b = second a.shown.mode a.schema in
    let c = third b.shown.mode b.schema in
    record {
      shown = record {
        was_open = a.shown.was_open;
        is_open = c.shown.is_open;
        now_is = refl;
        committed_is = c.shown.committed_is ∙ b.shown.committed_is ∙ a.shown.committed_is;
        mode = c.shown.mode;
      };
      schema = c.schema;
      catalog = subst (Lists (last.now.trees catalog_tree)) c.schema c.sound.lists;
      empty = (c.others.0 ∙ b.others.0 ∙ a.empty, c.others.1.0 ∙ b.empty, c.empty);
      acted = tt;
    }

pub no_rows_of_acts : (rows : List Row) → rows ≡ [] → HoldsActs rows []
no_rows_of_acts rows none = record { stored = []; rows_are = none; rise = tt; same = IsPermutation-refl [] }

-- the fourth table, after the three
pub with_fourth : (old one last : State) → MakesTables old one One
    → (IsTrue one.in_transaction → one.now.schema ≡ store_schema One → Makes one last (store_schema One) (store_schema Two) 4)
    → MakesTables old last Two
with_fourth old one last made more =
    let a = more made.shown.mode made.schema in
    record {
      shown = record {
        was_open = made.shown.was_open;
        is_open = a.shown.is_open;
        now_is = refl;
        committed_is = a.shown.committed_is ∙ made.shown.committed_is;
        mode = a.shown.mode;
      };
      schema = a.schema;
      catalog = subst (Lists (last.now.trees catalog_tree)) a.schema a.sound.lists;
      empty = (a.others.0 ∙ made.empty.0, a.others.1.0 ∙ made.empty.1, a.others.1.1.0 ∙ made.empty.2);
      acted = no_rows_of_acts _ a.empty;
    }

nothing_placed : (version : StoreVersion) → ArePlaced (acts_in (no_acts version)) 0
nothing_placed One = record { rise = tt; low = tt; fit = tt }
nothing_placed Two = record { rise = tt; low = tt; fit = tt }

its_version : (version : StoreVersion) → version_of (no_acts version) ≡ version
its_version One = refl
its_version Two = refl

-- tables with no row but the title's are a new store
pub new_store : (old one last : State) (version : StoreVersion) (title : Title) → MakesTables old one version → WritesTitle one last title → Holds last.now.trees (titled version title)
new_store old one last version title made titles = record {
  catalog = subst (λ v. Lists (last.now.trees catalog_tree) (store_schema v)) (sym (its_version version))
      (subst (λ rows. Lists rows (store_schema version)) (sym titles.on.catalog) made.catalog);
  meta = titles.meta;
  entries = titles.entries ∙ made.empty.1;
  cells = no_cells _ (titles.cells ∙ made.empty.2);
  acted = subst (λ rows. HoldsActed rows (no_acts version)) (sym titles.acted) made.acted;
  placed = nothing_placed version;
}

module _ {S : Type 0} (g : Ghosts S) (old tx one last : Held S) (version : StoreVersion) (title : Title) (begun : tx ≡ record old { in_transaction = true })
    (first : IsTrue tx.in_transaction → tx.schema ≡ no_schema → MakesTables (state g tx) (state g one) version)
    (second : IsTrue one.in_transaction → one.schema ≡ store_schema version → (state g one).now.trees meta_tree ≡ [] → WritesTitle (state g one) (state g last) title) where
  pub store_made : old.schema ≡ no_schema → Holds (state g last).now.trees (titled version title) × ((state g last).now.schema ≡ store_schema (version_of (no_acts version)))
  store_made has =
      let a = first (ap (λ h. h.in_transaction) begun) (ap (λ h. h.schema) begun ∙ has) in
      let b = second a.shown.mode a.schema a.empty.0 in
      (new_store (state g tx) (state g one) (state g last) version title a b, b.on.schema ∙ a.schema ∙ ap store_schema (sym (its_version version)))
