-- What the queries show.
use Rattle.std.proofs.Common.{◌≡◌, ◌⊎◌, inl, inr, ℕ, ◌+◌, ◌<◌, pos, List, [], ◌∷◌, ◌++◌, map, true, false, cond, Some, None, Ok, Err, Result, IfOk, OnOk, IsTrue, refl, sym, ap, subst, ◌∙◌, arith, Less, Equal, is_lt}
use Rattle.std.specs.List.{AllByRecursion, flat_map}
use Rattle.std.specs.Cmp.{IsTotalOrder}
use Rattle.std.specs.declared.cmp.Ordering.{Ordering}
use Rattle.std.proofs.lemmas.Cmp.{on_total}
use Rattle.std.specs.List.Sorted.{IsPermutation}
use Rattle.sqlite_sql.proofs.QueryLemmas.{key_cmp_total}
use Rattle.sqlite_keyed.proofs.SortLemmas.{sorted_unique}
use Rattle.sqlite_value.specs.Order.{value_cmp}
use Rattle.sqlite.specs.declared.types.Value.TheVariants.{Null, Int, Text, Blob}
use Rattle.sqlite.specs.Order.{Row}
use Rattle.sqlite.specs.Tree.{Trees}
use Rattle.sqlite_trees.specs.Tree.{IsAscending}
use Rattle.sqlite.specs.Program.{overlay}
use Rattle.sqlite.specs.Term.{Env}
use Rattle.sqlite.specs.Query.{IsAnswer, output, output_cmp, page, Output}
use Rattle.sqlite.specs.Command.TheVariants.{Select}
use Rattle.sqlite.specs.Schema.{Schema}
use Rattle.sqlite.specs.Listing.{understood, reads_listing}
use Rattle.sqlite.specs.State.{State, IsLive, IsUnchanged, Shown, ShowsRows, Survives, CommitsShowing}
use Rattle.sqlite.specs.Clock.{timed}
use Rattle.sqlite.proofs.Callers.{IsPlain, reads_as, never_commits}
use Rattle.sqlite.proofs.StateLemmas.{survives_weaker}
use Rattle.lynx_cells.specs.Database.{Database}
use Rattle.lynx_sql.specs.declared.version.StoreVersion.{StoreVersion}
use Rattle.lynx_sql.specs.Tables.{store_schema, IsStoreSchema, cell_tree, entry_tree, meta_tree}
use Rattle.lynx_sql.specs.Rows.{meta_rows, shown_meta, entry_row, entry_rows, shown_entries}
use Rattle.lynx_sql.specs.Texts.{titles_text, entries_text, cells_text}
use Rattle.lynx_sql.specs.Cells.{Stored, cell_row, shown_cell, HoldsCells, ShowsCells}
use Rattle.std.proofs.lemmas.List.Sorted.{IsPermutation-map}
use Rattle.lynx_sql.specs.Steps.{Keeps}
use Rattle.lynx_sql.specs.Contents.{Title, Contents}
use Rattle.lynx_sql.proofs.RowLemmas.{lower_id}
use Rattle.lynx_sql.proofs.Understood.{titles_query, titles_is, titles_plain, entries_query, entries_is, entries_plain, cells_query, cells_is, cells_plain, rising}

-- a query changes nothing
pub shown_unchanged : (sql : List ℕ) (params : Row) (old new : State) (rows : List Row) → IsPlain (understood old.now.schema sql) → Shown sql params old new rows → IsUnchanged old new
unfolding Shown
shown_unchanged sql params old new rows plain h =
    let none = (subst IsPlain h.1.is plain).0 in
    let full = timed params h.0.formats h.1.now in
    let it = subst (ShowsRows old new sql h.0 full rows) none h.2 in it.3

pub leaves_as_before : (sql : List ℕ) (params : Row) (old new : State) → IsPlain (understood old.now.schema sql) → Survives old new (CommitsShowing sql params old) → Survives old new (λ _. ⊥)
leaves_as_before sql params old new plain = survives_weaker old new _ _ (λ _ db. never_commits sql params old db plain)

-- A query has shown its rows, outside a transaction, over the tables of a store.
abbrev pub HasShown : List ℕ → State → State → List Row → Type 0
HasShown text old new rows = IsLive old × (IsTrue old.is_open → old.now ≡ old.committed) × IsStoreSchema old.now.schema × Shown text [] old new rows

-- Where the store has these tables, the text is that of a query that only reads.
abbrev pub OnlyReads : State → List ℕ → Type 0
OnlyReads s text = (version : StoreVersion) → s.now.schema ≡ store_schema version → IsPlain (understood (store_schema version) text)

pub plain_in : (s : State) (text : List ℕ) → IsStoreSchema s.now.schema → OnlyReads s text → IsPlain (understood s.now.schema text)
plain_in s text has plain = subst (λ schema. IsPlain (understood schema text)) (sym has.is) (plain has.version has.is)

-- ---- entries

abbrev outs : ℕ → List (List ℕ) → List Output
outs place [] = []
outs place (body ∷ bodies) = (Int (pos place) ∷ [], Int (pos place) ∷ Blob body ∷ []) ∷ outs (place + 1) bodies

abbrev entry_cmp : Output → Output → Ordering
entry_cmp = output_cmp entries_query

pub total : IsTotalOrder (output_cmp entries_query)
total = on_total (λ (o : Output). o.0) (key_cmp_total (rising ∷ []) 0)

above : (m place : ℕ) (body : Row) (bodies : List (List ℕ)) → m < place → AllByRecursion (λ o. entry_cmp (Int (pos m) ∷ [], body) o ≡ Less) (outs place bodies)
above m place body [] low = tt
above m place body (b ∷ bodies) low = (rw (lower_id m place low) refl, above m (place + 1) body bodies (omega arith))

strict : (place : ℕ) (bodies : List (List ℕ)) → IsAscending (λ a b. entry_cmp a b ≡ Less) (outs place bodies)
strict place [] = tt
strict place (b ∷ bodies) = (above place (place + 1) (Int (pos place) ∷ Blob b ∷ []) bodies (omega arith), strict (place + 1) bodies)

abbrev pub picks : Row → List Env
picks r = ([] ∷ r ∷ []) ∷ []

staged_outs : (place : ℕ) (bodies : List (List ℕ)) → map (output entries_query) (flat_map picks (entry_rows place bodies)) ≡ outs place bodies
staged_outs place [] = refl
staged_outs place (b ∷ bodies) = ap (λ os. (Int (pos place) ∷ [], Int (pos place) ∷ Blob b ∷ []) ∷ os) (staged_outs (place + 1) bodies)

shown_outs : (place : ℕ) (bodies : List (List ℕ)) → map (λ (o : Output). o.1) (outs place bodies) ≡ shown_entries place bodies
shown_outs place [] = refl
shown_outs place (b ∷ bodies) = ap (λ rows. (Int (pos place) ∷ Blob b ∷ []) ∷ rows) (shown_outs (place + 1) bodies)

answers : (db : Trees) (rows : List Row) (bodies : List (List ℕ)) → IsAnswer entries_query (overlay db []) [] rows → db 1 ≡ entry_rows 0 bodies → rows ≡ shown_entries 0 bodies
answers db rows bodies a has =
    let staged : a.staged ≡ flat_map picks (entry_rows 0 bodies) = a.grouped ∙ ap (flat_map picks) has in
    let kept : a.kept ≡ outs 0 bodies = a.distinct ∙ ap (map (output entries_query)) staged ∙ staged_outs 0 bodies in
    let ordered : a.ordered ≡ outs 0 bodies = sorted_unique entry_cmp total (outs 0 bodies) a.ordered (strict 0 bodies) (subst (λ k. IsPermutation k a.ordered) kept a.same) a.sorted in
    a.shown ∙ ap (λ os. page entries_query [] (map (λ (o : Output). o.1) os)) ordered ∙ shown_outs 0 bodies

pub entries_answer : (old new : State) (rows : List Row) → HasShown entries_text old new rows → IsAnswer entries_query (overlay old.now.trees []) [] rows
entries_answer old new rows it =
    let version = it.2.version in
    (reads_as entries_text [] old new (store_schema version) it.2.is _ (entries_is version).0 (entries_plain version) (entries_is version).1 rows it.3).answer Null

pub entries_shown : (old new : State) (rows : List Row) → HasShown entries_text old new rows → (contents : Contents) → Keeps old contents → rows ≡ shown_entries 0 contents.bodies
entries_shown old new rows it contents keeps =
    answers old.now.trees rows contents.bodies (entries_answer old new rows it) (ap (λ d. d.trees entry_tree) (it.1 keeps.is_open) ∙ keeps.tables.entries)

pub if_ok : {A E : Type 0} {P Q : A → Type 0} (r : Result A E) → ((x : A) → P x → Q x) → IfOk r P → IfOk r Q
if_ok (Ok x) f p = f x p
if_ok (Err e) f p = tt

pub on_if_ok : {A E : Type 0} {P : A → Type 0} {Q : Type 0} (r : Result A E) → ((x : A) → P x → Q) → IfOk r P → OnOk r Q
on_if_ok (Ok x) f p = f x p
on_if_ok (Err e) f p = tt

-- ---- cells

staged_cells : (stored : List Stored) → map (λ (o : Output). o.1) (map (output cells_query) (flat_map picks (map cell_row stored))) ≡ map shown_cell stored
staged_cells [] = refl
staged_cells (s ∷ more) = ap (λ rows. shown_cell s ∷ rows) (staged_cells more)

cell_answers : (db : Trees) (rows : List Row) (cells : Database) → IsAnswer cells_query (overlay db []) [] rows → HoldsCells (db 2) cells → ShowsCells rows cells
cell_answers db rows cells a h =
    let staged : a.staged ≡ flat_map picks (map cell_row h.stored) = a.grouped ∙ ap (flat_map picks) h.rows_are in
    let kept : a.kept ≡ map (output cells_query) (flat_map picks (map cell_row h.stored)) = a.distinct ∙ ap (map (output cells_query)) staged in
    let all = IsPermutation-map (λ (o : Output). o.1) a.kept a.ordered a.same in
    let front : map (λ (o : Output). o.1) a.kept ≡ map shown_cell h.stored = ap (map (λ (o : Output). o.1)) kept ∙ staged_cells h.stored in
    record {
      stored = h.stored;
      same = subst (IsPermutation (map shown_cell h.stored)) (sym a.shown) (subst (λ xs. IsPermutation xs (map (λ (o : Output). o.1) a.ordered)) front all);
      fit = h.fit;
      apart = h.apart;
      found = h.found;
    }

pub cells_answer : (old new : State) (rows : List Row) → HasShown cells_text old new rows → IsAnswer cells_query (overlay old.now.trees []) [] rows
cells_answer old new rows it =
    let version = it.2.version in
    (reads_as cells_text [] old new (store_schema version) it.2.is _ (cells_is version).0 (cells_plain version) (cells_is version).1 rows it.3).answer Null

pub cells_shown : (old new : State) (rows : List Row) → HasShown cells_text old new rows → (contents : Contents) → Keeps old contents → ShowsCells rows contents.cells
cells_shown old new rows it contents keeps =
    cell_answers old.now.trees rows contents.cells (cells_answer old new rows it)
    (subst (λ d. HoldsCells (d.trees cell_tree) contents.cells) (sym (it.1 keeps.is_open)) keeps.tables.cells)

-- ---- the title

abbrev title_outs : Title → List Output
title_outs title =
    (Int (pos 1) ∷ [], Int (pos 1) ∷ Text title.version ∷ [])
    ∷ (Int (pos 2) ∷ [], Int (pos 2) ∷ Text title.server ∷ [])
    ∷ (Int (pos 3) ∷ [], Int (pos 3) ∷ Text title.set ∷ [])
    ∷ []

pub title_total : IsTotalOrder (output_cmp titles_query)
title_total = on_total (λ (o : Output). o.0) (key_cmp_total (rising ∷ []) 0)

title_strict : (title : Title) → IsAscending (λ a b. output_cmp titles_query a b ≡ Less) (title_outs title)
title_strict title = (
  (rw (lower_id 1 2 (omega arith)) refl, (rw (lower_id 1 3 (omega arith)) refl, tt)),
  ((rw (lower_id 2 3 (omega arith)) refl, tt), (tt, tt)),
)

title_answers : (db : Trees) (rows : List Row) (title : Title) → IsAnswer titles_query (overlay db []) [] rows → db 0 ≡ meta_rows title → rows ≡ shown_meta title
title_answers db rows title a has =
    let staged : a.staged ≡ flat_map picks (meta_rows title) = a.grouped ∙ ap (flat_map picks) has in
    let kept : a.kept ≡ title_outs title = a.distinct ∙ ap (map (output titles_query)) staged in
    let ordered : a.ordered ≡ title_outs title =
    sorted_unique (output_cmp titles_query) title_total (title_outs title) a.ordered (title_strict title) (subst (λ k. IsPermutation k a.ordered) kept a.same) a.sorted in
    a.shown ∙ ap (λ os. page titles_query [] (map (λ (o : Output). o.1) os)) ordered

pub titles_answer : (old new : State) (rows : List Row) → HasShown titles_text old new rows → IsAnswer titles_query (overlay old.now.trees []) [] rows
titles_answer old new rows it =
    let version = it.2.version in
    (reads_as titles_text [] old new (store_schema version) it.2.is _ (titles_is version).0 (titles_plain version) (titles_is version).1 rows it.3).answer Null

-- the query shows the title that `meta` holds
pub title_read : (old new : State) (rows : List Row) → HasShown titles_text old new rows → (title : Title) → IsTrue old.is_open
    → old.committed.trees meta_tree ≡ meta_rows title → rows ≡ shown_meta title
title_read old new rows it title up holds =
    title_answers old.now.trees rows title (titles_answer old new rows it) (ap (λ d. d.trees meta_tree) (it.1 up) ∙ holds)
