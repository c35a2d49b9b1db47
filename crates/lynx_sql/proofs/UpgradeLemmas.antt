-- A store of version 1 made one of version 2, and a store given to another set, each in one transaction.
use Rattle.std.proofs.Common.{◌≡◌, ℕ, List, [], length, true, None, IsTrue, refl, sym, ap, subst, ◌∙◌}
use Rattle.sqlite.specs.Store.{Ghosts}
use Rattle.sqlite.specs.Held.{Held, state}
use Rattle.sqlite.specs.State.{State}
use Rattle.sqlite_catalog.specs.Listing.{Lists}
use Rattle.sqlite_trees.specs.Objects.{catalog_tree}
use Rattle.lynx_sql.specs.declared.acts.Acted.{Acted}
use Rattle.lynx_sql.specs.declared.version.StoreVersion.{StoreVersion}
use Rattle.lynx_sql.specs.declared.version.StoreVersion.TheVariants.{One, Two}
use Rattle.lynx_sql.specs.Acts.{HoldsActed, HoldsActs, ArePlaced, version_of}
use Rattle.lynx_sql.specs.Cells.{HoldsCells}
use Rattle.lynx_sql.specs.Contents.{Contents, retitled, upgraded}
use Rattle.lynx_sql.specs.Tables.{store_schema}
use Rattle.lynx_sql.specs.Steps.{Makes, AddsActs, AddsTable, Retitles, SetsText, Holds, Keeps}
use Rattle.lynx_sql.proofs.CreateLemmas.{no_rows_of_acts}

pub adds_table : (old one new : State) (acts : List Acted) → Makes old one (store_schema One) (store_schema Two) 4 → AddsActs one new acts → AddsTable old new acts
adds_table old one new acts made more = record {
  shown = record {
    was_open = made.shown.was_open;
    is_open = more.on.shown.is_open;
    now_is = refl;
    committed_is = more.on.shown.committed_is ∙ made.shown.committed_is;
    mode = more.on.shown.mode;
  };
  schema = more.on.schema ∙ made.schema;
  catalog = subst (λ rows. Lists rows (store_schema Two)) (sym more.on.catalog) (subst (Lists (one.now.trees catalog_tree)) made.schema made.sound.lists);
  meta = more.meta ∙ made.others.0;
  entries = more.entries ∙ made.others.1.0;
  cells = more.cells ∙ made.others.1.1.0;
  acted = more.acted [] (no_rows_of_acts _ made.empty);
}

holds_upgraded : (a b c : State) (before : Contents) (version set : List ℕ) (acts : List Acted) → AddsTable a b acts → Retitles b c version set
    → Holds a.now.trees before → ArePlaced acts (length before.bodies) → Holds c.now.trees (upgraded before version set acts)
holds_upgraded a b c before version set acts p q h placed = record {
  catalog = subst (λ rows. Lists rows (store_schema Two)) (sym q.on.catalog) p.catalog;
  meta = q.meta before.title (p.meta ∙ h.meta);
  entries = q.entries ∙ p.entries ∙ h.entries;
  cells = subst (λ rows. HoldsCells rows before.cells) (sym (q.cells ∙ p.cells)) h.cells;
  acted = subst (λ rows. HoldsActs rows acts) (sym q.acted) p.acted;
  placed = placed;
}

module _ {S : Type 0} (g : Ghosts S) (old tx mid last : Held S) (begun : tx ≡ record old { in_transaction = true })
    (version set : List ℕ) (acts : List Acted)
    (one : IsTrue tx.in_transaction → tx.schema ≡ store_schema One → AddsTable (state g tx) (state g mid) acts)
    (two : IsTrue mid.in_transaction → mid.schema ≡ store_schema Two → Retitles (state g mid) (state g last) version set) where
  pub upgrade_made : (before : Contents) → Keeps (state g old) before → before.acted ≡ None → ArePlaced acts (length before.bodies)
      → (state g old).now ≡ (state g old).committed → Holds (state g last).now.trees (upgraded before version set acts) × ((state g last).now.schema ≡ store_schema Two)
  upgrade_made before keeps none placed settled =
      let has : tx.schema ≡ store_schema One = ap (λ h. h.schema) begun ∙ keeps.schema ∙ ap (λ acted. store_schema (version_of acted)) none in
      let first = one (ap (λ h. h.in_transaction) begun) has in
      let second = two first.shown.mode first.schema in
      let now : (state g tx).now.trees ≡ (state g old).committed.trees =
      ap (λ h. (state g h).now.trees) begun ∙ ap (λ d. d.trees) settled in
      let held = subst (λ trees. Holds trees before) (sym now) keeps.tables in
      (holds_upgraded (state g tx) (state g mid) (state g last) before version set acts first second held placed, second.on.schema ∙ first.schema)

-- ---- another text of the set

holds_retitled : (a b : State) (before : Contents) (set : List ℕ) → SetsText a b 3 set → Holds a.now.trees before → Holds b.now.trees (retitled before set)
holds_retitled a b before set p h = record {
  catalog = subst (λ rows. Lists rows (store_schema (version_of before.acted))) (sym p.on.catalog) h.catalog;
  meta = p.meta before.title h.meta;
  entries = p.entries ∙ h.entries;
  cells = subst (λ rows. HoldsCells rows before.cells) (sym p.cells) h.cells;
  acted = subst (λ rows. HoldsActed rows before.acted) (sym p.acted) h.acted;
  placed = h.placed;
}

module _ {S : Type 0} (g : Ghosts S) (old tx last : Held S) (begun : tx ≡ record old { in_transaction = true }) (set : List ℕ)
    (text : (version : StoreVersion) → IsTrue tx.in_transaction → tx.schema ≡ store_schema version → SetsText (state g tx) (state g last) 3 set) where
  pub retitle_made : (before : Contents) → Keeps (state g old) before → (state g old).now ≡ (state g old).committed
      → Holds (state g last).now.trees (retitled before set) × ((state g last).now.schema ≡ store_schema (version_of before.acted))
  retitle_made before keeps settled =
      let has : tx.schema ≡ store_schema (version_of before.acted) = ap (λ h. h.schema) begun ∙ keeps.schema in
      let done = text (version_of before.acted) (ap (λ h. h.in_transaction) begun) has in
      let now : (state g tx).now.trees ≡ (state g old).committed.trees =
      ap (λ h. (state g h).now.trees) begun ∙ ap (λ d. d.trees) settled in
      let held = subst (λ trees. Holds trees before) (sym now) keeps.tables in
      (holds_retitled (state g tx) (state g last) before set done held, done.on.schema ∙ has)
