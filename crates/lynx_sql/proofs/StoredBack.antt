-- The rows that a query shows tell the rows that are stored.
use Rattle.std.proofs.Common.{◌≡◌, ◌≢◌, ℕ, ℤ, ◌+◌, ◌<ℤ◌, pos, suc, ◌<◌, drop, codes, List, [], ◌∷◌, ◌++◌, map, Bool, true, false, ◌&&◌, cond, if◌then◌else◌, Some, None, IsTrue, refl, sym, ap, subst, ◌∙◌, arith, Less}
use Rattle.std.specs.List.{AllByRecursion, flat_map}
use Rattle.std.specs.Ordering.{int_cmp}
use Rattle.std.specs.List.Sorted.{IsPermutation}
use Rattle.sqlite_value.specs.declared.value.Value.{Value}
use Rattle.sqlite_value.specs.declared.value.Value.TheVariants.{Null, Int, Real, Text, Blob}
use Rattle.sqlite_value.specs.Order.{Row, column, value_cmp}
use Rattle.sqlite_value.proofs.OrderLemmas.{value_cmp-Int}
use Rattle.sqlite_sql.specs.Ops.{is_null}
use Rattle.sqlite_keyed.proofs.SortLemmas.{sorted_unique}
use Rattle.sqlite_trees.specs.Tree.{Trees, rowid, IsAscending, IsTable}
use Rattle.sqlite_schema.specs.declared.schema.Column.{Column}
use Rattle.sqlite_schema.specs.Rules.{are_typed}
use Rattle.sqlite_schema.specs.declared.schema.Constraint.TheVariants.{Datatype}
use Rattle.sqlite_catalog.specs.Listing.{IsSound}
use Rattle.sqlite_trees.specs.View.{is_int}
use Rattle.sqlite.specs.Kind.{Kind}
use Rattle.sqlite.specs.Kind.TheVariants.{Text as TextKind, Blob as BlobKind}
use Rattle.sqlite.specs.Program.{overlay}
use Rattle.sqlite.specs.Query.{IsAnswer, output, output_cmp, page, Output}
use Rattle.lynx_sql.specs.Contents.{Title}
use Rattle.lynx_sql.specs.declared.version.StoreVersion.{StoreVersion}
use Rattle.lynx_sql.specs.Tables.{key_column, column_of, meta, entry, store_schema}
use Rattle.lynx_sql.specs.Rows.{meta_row, meta_rows, shown_meta, entry_row, entry_rows, shown_entries}
use Rattle.lynx_sql.proofs.Understood.{titles_query, entries_query, cells_query}
use Rattle.lynx_sql.proofs.ReadLemmas.{picks, total, title_total}

-- what the query shows of a row under a number
abbrev pub shown_of : Row → Row
shown_of row = column row 0 ∷ column row 2 ∷ []

-- the columns of `meta` and `entry`
abbrev pub numbered_columns : List ℕ → List ℕ → Kind → List Column
numbered_columns key other kind = key_column key ∷ column_of other kind ∷ []

no_value : {A : Type 0} (v : Value) → is_null v ≡ false → Null ≡ v → A
no_value Null h e = absurd (let x : true ≡ false = h in cc)
no_value (Int n) h e = absurd (let x = e in cc)
no_value (Real x) h e = absurd (let y = e in cc)
no_value (Text t) h e = absurd (let x = e in cc)
no_value (Blob b) h e = absurd (let x = e in cc)

null_is : (v : Value) → is_null v ≡ true → v ≡ Null
null_is Null h = refl
null_is (Int n) h = absurd (let x : false ≡ true = h in cc)
null_is (Real x) h = absurd (let y : false ≡ true = h in cc)
null_is (Text t) h = absurd (let x : false ≡ true = h in cc)
null_is (Blob b) h = absurd (let x : false ≡ true = h in cc)

pub left_true : (a b : Bool) → (a && b) ≡ true → a ≡ true
left_true true b h = refl
left_true false b h = h

pub right_true : (a b : Bool) → (a && b) ≡ true → b ≡ true
right_true true b h = h
right_true false b h = absurd (let x : false ≡ true = h in cc)

-- a row of `meta` or `entry`, from what the query shows of it
numbered_row : (key other : List ℕ) (kind : Kind) (row : Row) (n : ℤ) (v : Value) → is_null v ≡ false
    → are_typed (Some 0) 0 (numbered_columns key other kind) (drop 1 row) ≡ true → column row 0 ≡ Int n → column row 2 ≡ v
    → row ≡ Int n ∷ Null ∷ v ∷ []
numbered_row key other kind [] n v solid typed first last = no_value v solid last
numbered_row key other kind (a ∷ []) n v solid typed first last = no_value v solid last
numbered_row key other kind (a ∷ b ∷ []) n v solid typed first last = no_value v solid last
numbered_row key other kind (a ∷ b ∷ c ∷ []) n v solid typed first last =
    let none : b ≡ Null = null_is b (left_true _ _ typed) in
    ap (λ x. x ∷ b ∷ c ∷ []) first ∙ ap (λ x. Int n ∷ x ∷ c ∷ []) none ∙ ap (λ x. Int n ∷ Null ∷ x ∷ []) last
numbered_row key other kind (a ∷ b ∷ c ∷ d ∷ more) n v solid typed first last =
    absurd (let end : false ≡ true = right_true _ _ (right_true _ _ typed) in cc)

abbrev IsTypedRow : List ℕ → List ℕ → Kind → Row → Type 0
IsTypedRow key other kind row = are_typed (Some 0) 0 (numbered_columns key other kind) (drop 1 row) ≡ true

entries_stored : (place : ℕ) (rows : List Row) (bodies : List (List ℕ)) → AllByRecursion (IsTypedRow (codes "place") (codes "body") BlobKind) rows
    → map shown_of rows ≡ shown_entries place bodies → rows ≡ entry_rows place bodies
entries_stored place [] [] typed same = refl
entries_stored place [] (body ∷ bodies) typed same = absurd (let e = same in cc)
entries_stored place (row ∷ rows) [] typed same = absurd (let e = same in cc)
entries_stored place (row ∷ rows) (body ∷ bodies) typed same =
    let here : shown_of row ≡ Int (pos place) ∷ Blob body ∷ [] = cc in
    let number : column row 0 ≡ Int (pos place) = cc in
    let value : column row 2 ≡ Blob body = cc in
    let rest : map shown_of rows ≡ shown_entries (place + 1) bodies = cc in
    let first = numbered_row (codes "place") (codes "body") BlobKind row (pos place) (Blob body) refl typed.0 number value in
    ap (λ r. r ∷ rows) first ∙ ap (λ rs. entry_row place body ∷ rs) (entries_stored (place + 1) rows bodies typed.1 rest)

texts_stored : (rows : List Row) (title : Title) → AllByRecursion (IsTypedRow (codes "id") (codes "txt") TextKind) rows
    → map shown_of rows ≡ shown_meta title → rows ≡ meta_rows title
texts_stored [] title typed same = absurd (let e = same in cc)
texts_stored (a ∷ []) title typed same = absurd (let e = same in cc)
texts_stored (a ∷ b ∷ []) title typed same = absurd (let e = same in cc)
texts_stored (a ∷ b ∷ c ∷ d ∷ more) title typed same = absurd (let e = same in cc)
texts_stored (a ∷ b ∷ c ∷ []) title typed same =
    let number_a : column a 0 ≡ Int (pos 1) = cc in
    let value_a : column a 2 ≡ Text title.version = cc in
    let number_b : column b 0 ≡ Int (pos 2) = cc in
    let value_b : column b 2 ≡ Text title.server = cc in
    let number_c : column c 0 ≡ Int (pos 3) = cc in
    let value_c : column c 2 ≡ Text title.set = cc in
    let first : a ≡ meta_row 1 title.version = numbered_row (codes "id") (codes "txt") TextKind a (pos 1) (Text title.version) refl typed.0 number_a value_a in
    let second : b ≡ meta_row 2 title.server = numbered_row (codes "id") (codes "txt") TextKind b (pos 2) (Text title.server) refl typed.1.0 number_b value_b in
    let third : c ≡ meta_row 3 title.set = numbered_row (codes "id") (codes "txt") TextKind c (pos 3) (Text title.set) refl typed.1.1.0 number_c value_c in
    ap (λ r. r ∷ b ∷ c ∷ []) first ∙ ap (λ r. meta_row 1 title.version ∷ r ∷ c ∷ []) second
    ∙ ap (λ r. meta_row 1 title.version ∷ meta_row 2 title.server ∷ r ∷ []) third

-- ---- what the queries show of rows that rise

staged_rows : (rows : List Row) → map (λ (o : Output). o.1) (map (output entries_query) (flat_map picks rows)) ≡ map shown_of rows
staged_rows [] = refl
staged_rows (r ∷ rows) = ap (λ rs. shown_of r ∷ rs) (staged_rows rows)

staged_texts : (rows : List Row) → map (λ (o : Output). o.1) (map (output titles_query) (flat_map picks rows)) ≡ map shown_of rows
staged_texts [] = refl
staged_texts (r ∷ rows) = ap (λ rs. shown_of r ∷ rs) (staged_texts rows)

entries_above : (r : Row) (rows : List Row) → AllByRecursion (λ s. value_cmp (rowid r) (rowid s) ≡ Less) rows
    → AllByRecursion (λ o. output_cmp entries_query (output entries_query ([] ∷ r ∷ [])) o ≡ Less) (map (output entries_query) (flat_map picks rows))
entries_above r [] below = tt
entries_above r (s ∷ rows) below = (rw below.0 refl, entries_above r rows below.1)

entries_rise : (rows : List Row) → IsTable rows → IsAscending (λ a b. output_cmp entries_query a b ≡ Less) (map (output entries_query) (flat_map picks rows))
entries_rise [] up = tt
entries_rise (r ∷ rows) up = (entries_above r rows up.0, entries_rise rows up.1)

texts_above : (r : Row) (rows : List Row) → AllByRecursion (λ s. value_cmp (rowid r) (rowid s) ≡ Less) rows
    → AllByRecursion (λ o. output_cmp titles_query (output titles_query ([] ∷ r ∷ [])) o ≡ Less) (map (output titles_query) (flat_map picks rows))
texts_above r [] below = tt
texts_above r (s ∷ rows) below = (rw below.0 refl, texts_above r rows below.1)

texts_rise : (rows : List Row) → IsTable rows → IsAscending (λ a b. output_cmp titles_query a b ≡ Less) (map (output titles_query) (flat_map picks rows))
texts_rise [] up = tt
texts_rise (r ∷ rows) up = (texts_above r rows up.0, texts_rise rows up.1)

entries_answered : (db : Trees) (rows : List Row) → IsAnswer entries_query (overlay db []) [] rows → IsTable (db 1) → rows ≡ map shown_of (db 1)
entries_answered db rows a up =
    let all = map (output entries_query) (flat_map picks (db 1)) in
    let kept : a.kept ≡ all = a.distinct ∙ ap (map (output entries_query)) a.grouped in
    let ordered : a.ordered ≡ all =
    sorted_unique (output_cmp entries_query) total all a.ordered (entries_rise (db 1) up) (subst (λ k. IsPermutation k a.ordered) kept a.same) a.sorted in
    a.shown ∙ ap (λ os. page entries_query [] (map (λ (o : Output). o.1) os)) ordered ∙ staged_rows (db 1)

texts_answered : (db : Trees) (rows : List Row) → IsAnswer titles_query (overlay db []) [] rows → IsTable (db 0) → rows ≡ map shown_of (db 0)
texts_answered db rows a up =
    let all = map (output titles_query) (flat_map picks (db 0)) in
    let kept : a.kept ≡ all = a.distinct ∙ ap (map (output titles_query)) a.grouped in
    let ordered : a.ordered ≡ all =
    sorted_unique (output_cmp titles_query) title_total all a.ordered (texts_rise (db 0) up) (subst (λ k. IsPermutation k a.ordered) kept a.same) a.sorted in
    a.shown ∙ ap (λ os. page titles_query [] (map (λ (o : Output). o.1) os)) ordered ∙ staged_texts (db 0)

-- ---- tables that obey the schema

module _ (version : StoreVersion) (db : Trees) (sound : IsSound (store_schema version) db) (rise : (t : ℕ) → t < 3 → IsTable (db t) × AllByRecursion (λ r. IsTrue (is_int (rowid r))) (db t)) where
  typed : (cols : List Column) (rows : List Row) → AllByRecursion (λ row. (are_typed (Some 0) 0 cols (drop 1 row) && true) ≡ true) rows
      → AllByRecursion (λ row. are_typed (Some 0) 0 cols (drop 1 row) ≡ true) rows
  typed cols [] h = tt
  typed cols (r ∷ rows) h = (left_true _ _ h.0, typed cols rows h.1)

  pub title_back : (rows : List Row) (title : Title) → IsAnswer titles_query (overlay db []) [] rows → rows ≡ shown_meta title → db 0 ≡ meta_rows title
  title_back rows title a shown =
      texts_stored (db 0) title (typed meta.columns (db 0) (sound.obeys.rules Datatype).0) (sym (texts_answered db rows a (rise 0 (omega arith)).0) ∙ shown)

  pub entries_back : (rows : List Row) (bodies : List (List ℕ)) → IsAnswer entries_query (overlay db []) [] rows → rows ≡ shown_entries 0 bodies → db 1 ≡ entry_rows 0 bodies
  entries_back rows bodies a shown =
      entries_stored 0 (db 1) bodies (typed entry.columns (db 1) (sound.obeys.rules Datatype).1.0) (sym (entries_answered db rows a (rise 1 (omega arith)).0) ∙ shown)
