-- The rows that the cells' query shows tell the cells that are stored.
use Rattle.std.proofs.Common.{◌≡◌, ℕ, ℤ, ◌<ℤ◌, pos, List, [], ◌∷◌, map, Bool, true, false, not, ◌&&◌, ◌||◌, ◌++◌, codes, drop, append_assoc, None, IsTrue, refl, sym, ap, subst, ◌∙◌, Less}
use Rattle.std.specs.Int.{w64, to_be_bytes}
use Rattle.std.specs.Ordering.{is_ne}
use Rattle.std.specs.List.{AllByRecursion, flat_map, list_any}
use Rattle.std.specs.List.Sorted.{IsPermutation}
use Rattle.std.proofs.lemmas.List.Sorted.{IsPermutation-map, IsPermutation-sym}
use Rattle.sqlite_trees.proofs.ListLemmas.{all-permutation}
use Rattle.sqlite_trees.specs.Tree.{Trees, rowid, IsAscending, IsTable}
use Rattle.sqlite_trees.specs.View.{is_int}
use Rattle.sqlite_value.specs.declared.value.Value.{Value}
use Rattle.sqlite_value.specs.declared.value.Value.TheVariants.{Null, Int, Real, Text, Blob}
use Rattle.sqlite_value.specs.Order.{Row, column, value_cmp}
use Rattle.sqlite_value.proofs.OrderLemmas.{value_cmp-Int}
use Rattle.sqlite_keyed.proofs.KeyedLemmas.{lt_from_Less}
use Rattle.sqlite_schema.specs.declared.schema.Column.{Column}
use Rattle.sqlite_schema.specs.declared.schema.Constraint.TheVariants.{Datatype, Unique}
use Rattle.sqlite_schema.specs.Rules.{are_typed, suits, agree, differ, clashes, passes}
use Rattle.sqlite_catalog.specs.Listing.{IsSound}
use Rattle.sqlite.specs.Kind.TheVariants.{Integer, Blob as BlobKind}
use Rattle.sqlite.specs.Program.{overlay}
use Rattle.sqlite.specs.Query.{IsAnswer, output, Output}
use Rattle.lynx_sql.specs.declared.version.StoreVersion.{StoreVersion}
use Rattle.lynx_sql.specs.declared.version.StoreVersion.TheVariants.{One, Two}
use Rattle.lynx_sql.specs.Tables.{column_of, cell, store_schema}
use Rattle.lynx_cells.specs.Database.{Database}
use Rattle.lynx_sql.specs.Cells.{Stored, cell_row, shown_cell, Fits, ComesBefore, HoldsCells, ShowsCells}
use Rattle.lynx_sql.specs.Shown.{row_of, FitsRow, AreCells, cells_in}
use Rattle.lynx_sql.proofs.Understood.{cells_query}
use Rattle.lynx_sql.proofs.ReadLemmas.{picks}
use Rattle.lynx_sql.proofs.StoredBack.{left_true, right_true}
use Rattle.sqlite.specs.Ops.{binary}
use Rattle.sqlite_value.specs.Keys.{plain, first_key}
use Rattle.lynx_sql.proofs.TestLemmas.{truth_of, finds_cell, finds_it}
use Rattle.lynx_sql.proofs.StoredLemmas.{id_more}
use Rattle.lynx_sql.proofs.FoundCells.{found_in}

-- what the query shows of a row of `cell`
abbrev pub triple_shown : Row → Row
triple_shown row = column row 1 ∷ column row 2 ∷ column row 3 ∷ []

abbrev pub cell_columns : List Column
cell_columns = column_of (codes "tab") Integer ∷ column_of (codes "k") BlobKind ∷ column_of (codes "v") BlobKind ∷ []

-- a row that shows a cell
pub record ShowsOne (row : Row) : Type 0 where
  pub cell : ℕ × ℕ × ℕ
  pub is : row ≡ row_of cell
  pub fits : FitsRow cell

shows_each : (rows : List Row) (cells : List (ℕ × ℕ × ℕ)) → rows ≡ map row_of cells → AllByRecursion FitsRow cells → AllByRecursion ShowsOne rows
shows_each [] [] is fit = tt
shows_each [] (c ∷ cells) is fit = absurd (let e = is in cc)
shows_each (r ∷ rows) [] is fit = absurd (let e = is in cc)
shows_each (r ∷ rows) (c ∷ cells) is fit =
    let here : r ≡ row_of c = cc in
    let rest : rows ≡ map row_of cells = cc in
    (record { cell = c; is = here; fits = fit.0 }, shows_each rows cells rest fit.1)

-- the rows of cells that are shown in some order are rows of cells
rows_each : (stored : List Stored) → AllByRecursion Fits stored → AllByRecursion ShowsOne (map shown_cell stored)
rows_each [] fit = tt
rows_each (s ∷ more) fit =
    let cell : ℕ × ℕ × ℕ = (s.table, s.key, s.value) in
    (record { cell = cell; is = refl; fits = record { table = fit.0.table; key = fit.0.key; value = fit.0.value; nonzero = fit.0.nonzero } }, rows_each more fit.1)

each_shown : (rows : List Row) → AllByRecursion ShowsOne rows → AreCells rows
each_shown [] each = record { cells = []; rows_are = refl; fit = tt }
each_shown (r ∷ rows) each =
    let more = each_shown rows each.1 in
    record {
      cells = each.0.cell ∷ more.cells;
      rows_are = ap (λ x. x ∷ rows) each.0.is ∙ ap (λ xs. row_of each.0.cell ∷ xs) more.rows_are;
      fit = (each.0.fits, more.fit);
    }

pub cells_formed : (rows : List Row) (db : Database) → ShowsCells rows db → AreCells rows
cells_formed rows db h = each_shown rows (all-permutation ShowsOne (map shown_cell h.stored) rows h.same (rows_each h.stored h.fit))

shows_all : (rows : List Row) → AllByRecursion ShowsOne (map triple_shown rows) → AllByRecursion (λ row. ShowsOne (triple_shown row)) rows
shows_all [] h = tt
shows_all (r ∷ rows) h = (h.0, shows_all rows h.1)

pub no_null : {A : Type 0} (t : ℕ) → Null ≡ Int (pos t) → A
no_null t e = absurd (let x = e in cc)

no_blob : {A : Type 0} (b : List ℕ) → Null ≡ Blob b → A
no_blob b e = absurd (let x = e in cc)

-- a row that shows a cell is that of the cell
one_row : (row : Row) (cell : ℕ × ℕ × ℕ) (id : ℤ) → are_typed None 0 cell_columns (drop 1 row) ≡ true → rowid row ≡ Int id
    → column row 1 ≡ Int (pos cell.0) → column row 2 ≡ Blob (to_be_bytes w64 cell.1) → column row 3 ≡ Blob (to_be_bytes w64 cell.2)
    → row ≡ Int id ∷ row_of cell
one_row [] cell id typed number table key value = no_null cell.0 table
one_row (a ∷ []) cell id typed number table key value = no_null cell.0 table
one_row (a ∷ b ∷ []) cell id typed number table key value = no_blob _ key
one_row (a ∷ b ∷ c ∷ []) cell id typed number table key value = no_blob _ value
one_row (a ∷ b ∷ c ∷ d ∷ []) cell id typed number table key value =
    ap (λ x. x ∷ b ∷ c ∷ d ∷ []) number ∙ ap (λ x. Int id ∷ x ∷ c ∷ d ∷ []) table ∙ ap (λ x. Int id ∷ Int (pos cell.0) ∷ x ∷ d ∷ []) key
    ∙ ap (λ x. Int id ∷ Int (pos cell.0) ∷ Blob (to_be_bytes w64 cell.1) ∷ x ∷ []) value
one_row (a ∷ b ∷ c ∷ d ∷ e ∷ more) cell id typed number table key value =
    absurd (let end : false ≡ true =
    right_true (suits (column_of (codes "v") BlobKind) d) false (right_true (suits (column_of (codes "k") BlobKind) c) _
    (right_true (suits (column_of (codes "tab") Integer) b) _ typed)) in cc)

pub int_of : (v : Value) → IsTrue (is_int v) → (n : ℤ) × (v ≡ Int n)
int_of (Int n) h = (n, refl)
int_of Null h = absurd (let x : false ≡ true = h in cc)
int_of (Real x) h = absurd (let y : false ≡ true = h in cc)
int_of (Text t) h = absurd (let x : false ≡ true = h in cc)
int_of (Blob b) h = absurd (let x : false ≡ true = h in cc)

-- the cells of the rows, under the numbers of the rows
pub record AreStoredCells (rows : List Row) : Type 0 where
  pub stored : List Stored
  pub rows_are : rows ≡ map cell_row stored
  pub fit : AllByRecursion Fits stored

stored_for : (rows : List Row) → AllByRecursion (λ row. are_typed None 0 cell_columns (drop 1 row) ≡ true) rows
    → AllByRecursion (λ r. IsTrue (is_int (rowid r))) rows → AllByRecursion (λ row. ShowsOne (triple_shown row)) rows → AreStoredCells rows
stored_for [] typed ints shows = record { stored = []; rows_are = refl; fit = tt }
stored_for (r ∷ rows) typed ints shows =
    let more = stored_for rows typed.1 ints.1 shows.1 in
    let id = int_of (rowid r) ints.0 in
    let one = shows.0 in
    let same : triple_shown r ≡ row_of one.cell = one.is in
    let table : column r 1 ≡ Int (pos one.cell.0) = cc in
    let key : column r 2 ≡ Blob (to_be_bytes w64 one.cell.1) = cc in
    let value : column r 3 ≡ Blob (to_be_bytes w64 one.cell.2) = cc in
    let s : Stored = record { id = id.0; table = one.cell.0; key = one.cell.1; value = one.cell.2 } in
    record {
      stored = s ∷ more.stored;
      rows_are = ap (λ x. x ∷ rows) (one_row r one.cell id.0 typed.0 id.1 table key value) ∙ ap (λ xs. cell_row s ∷ xs) more.rows_are;
      fit = (record { table = one.fits.table; key = one.fits.key; value = one.fits.value; nonzero = one.fits.nonzero }, more.fit);
    }

-- ---- no two cells are the same

differ_is : (m n : ℤ) → differ (Int m) (Int n) ≡ is_ne (value_cmp (Int m) (Int n))
unfolding binary
differ_is m n = truth_of _

greater_differs : (m n : ℤ) → n <ℤ m → differ (Int m) (Int n) ≡ true
greater_differs m n below = differ_is m n ∙ ap is_ne (id_more m n below)

agree_is : (x s : Stored) → agree plain (1 ∷ 2 ∷ []) (cell_row x) (1 ∷ 2 ∷ []) (cell_row s) ≡ finds_cell s.table s.key x
unfolding first_key
agree_is x s = refl

left_false : (a b : Bool) → (a || b) ≡ false → a ≡ false
left_false true b h = h
left_false false b h = refl

right_false : (a b : Bool) → (a || b) ≡ false → b ≡ false
right_false true b h = absurd (let e : true ≡ false = h in cc)
right_false false b h = h

none_of : {A : Type 0} (p : A → Bool) (xs : List A) → list_any p xs ≡ false → AllByRecursion (λ x. p x ≡ false) xs
none_of p [] h = tt
none_of p (x ∷ xs) h = (left_false _ _ h, none_of p xs (right_false (p x) _ h))

not_true : (b : Bool) → (not b && true) ≡ true → b ≡ false
not_true true h = absurd (let e : false ≡ true = h in cc)
not_true false h = refl

-- each row's key is its own
abbrev HasOwnKey : List Row → Row → Type 0
HasOwnKey rows row = clashes plain (1 ∷ 2 ∷ []) rows row ≡ false

-- of the indexes that a version has, the cells' one alone is over the cells
unique_is : (version : StoreVersion) (db : Trees) (row : Row) → passes Unique (store_schema version) db cell row ≡ (not (clashes plain (1 ∷ 2 ∷ []) (db 2) row) && true)
unique_is One db row = refl
unique_is Two db row = refl

own_keys : (version : StoreVersion) (db : Trees) (rows : List Row) → AllByRecursion (λ row. passes Unique (store_schema version) db cell row ≡ true) rows → AllByRecursion (HasOwnKey (db 2)) rows
own_keys version db [] h = tt
own_keys version db (r ∷ rows) h = (not_true _ (sym (unique_is version db r) ∙ h.0), own_keys version db rows h.1)

apart_after : (s : Stored) (xs : List Stored) → AllByRecursion (λ r. value_cmp (rowid (cell_row s)) (rowid r) ≡ Less) (map cell_row xs)
    → AllByRecursion (λ other. (agree plain (1 ∷ 2 ∷ []) other (1 ∷ 2 ∷ []) (cell_row s) && differ (rowid other) (rowid (cell_row s))) ≡ false) (map cell_row xs)
    → AllByRecursion (ComesBefore s) xs
apart_after s [] below none = tt
apart_after s (x ∷ xs) below none =
    let rises : s.id <ℤ x.id = lt_from_Less s.id x.id (sym (value_cmp-Int s.id x.id) ∙ below.0) in (
      record {
        rises = rises;
        apart = λ same.
            let found = agree_is x s ∙ finds_it s.table s.key x (sym same) in
            let both : (agree plain (1 ∷ 2 ∷ []) (cell_row x) (1 ∷ 2 ∷ []) (cell_row s) && differ (Int x.id) (Int s.id)) ≡ true =
            ap (λ b. b && differ (Int x.id) (Int s.id)) found ∙ greater_differs x.id s.id rises in
            let e : true ≡ false = sym both ∙ none.0 in cc;
      },
      apart_after s xs below.1 none.1,
    )

after_head : (P : Row → Type 0) (x : Row) (xs : List Row) → AllByRecursion P (x ∷ xs) → AllByRecursion P xs
after_head P x xs h = h.1

back_of : (P : Row → Type 0) (front rows : List Row) → AllByRecursion P (front ++ rows) → AllByRecursion P rows
back_of P [] rows h = h
back_of P (x ∷ front) rows h = back_of P front rows h.1

ascending_from : (front : List Row) (stored : List Stored) → IsTable (map cell_row stored)
    → AllByRecursion (HasOwnKey (front ++ map cell_row stored)) (map cell_row stored) → IsAscending ComesBefore stored
ascending_from front [] up own = tt
ascending_from front (s ∷ more) up own =
    let none = none_of _ (front ++ cell_row s ∷ map cell_row more) own.0 in
    let later = (back_of _ front (cell_row s ∷ map cell_row more) none).1 in
    let moved : front ++ cell_row s ∷ map cell_row more ≡ (front ++ cell_row s ∷ []) ++ map cell_row more = sym (append_assoc front (cell_row s ∷ []) (map cell_row more)) in (
      apart_after s more up.0 later,
      ascending_from (front ++ cell_row s ∷ []) more up.1 (subst (λ all. AllByRecursion (HasOwnKey all) (map cell_row more)) moved own.1),
    )

-- ---- the rows of a table that obeys the schema

staged_triples : (rows : List Row) → map (λ (o : Output). o.1) (map (output cells_query) (flat_map picks rows)) ≡ map triple_shown rows
staged_triples [] = refl
staged_triples (r ∷ rows) = ap (λ rs. triple_shown r ∷ rs) (staged_triples rows)

triples_answered : (db : Trees) (rows : List Row) → IsAnswer cells_query (overlay db []) [] rows → IsPermutation (map triple_shown (db 2)) rows
triples_answered db rows a =
    let kept : a.kept ≡ map (output cells_query) (flat_map picks (db 2)) = a.distinct ∙ ap (map (output cells_query)) a.grouped in
    let front : map (λ (o : Output). o.1) a.kept ≡ map triple_shown (db 2) = ap (map (λ (o : Output). o.1)) kept ∙ staged_triples (db 2) in
    let all = IsPermutation-map (λ (o : Output). o.1) a.kept a.ordered a.same in
    subst (IsPermutation (map triple_shown (db 2))) (sym a.shown) (subst (λ xs. IsPermutation xs (map (λ (o : Output). o.1) a.ordered)) front all)

cells_typed : (rows : List Row) → AllByRecursion (λ row. (are_typed None 0 cell_columns (drop 1 row) && true) ≡ true) rows
    → AllByRecursion (λ row. are_typed None 0 cell_columns (drop 1 row) ≡ true) rows
cells_typed [] h = tt
cells_typed (r ∷ rows) h = (left_true _ _ h.0, cells_typed rows h.1)

shown_back : (stored : List Stored) → map triple_shown (map cell_row stored) ≡ map shown_cell stored
shown_back [] = refl
shown_back (s ∷ more) = ap (λ rs. shown_cell s ∷ rs) (shown_back more)

pub cells_held : (version : StoreVersion) (db : Trees) → IsSound (store_schema version) db → IsTable (db 2) × AllByRecursion (λ r. IsTrue (is_int (rowid r))) (db 2)
    → (rows : List Row) → IsAnswer cells_query (overlay db []) [] rows → AreCells rows → HoldsCells (db 2) (cells_in rows)
cells_held version db sound rise rows a cells =
    let same = triples_answered db rows a in
    let shows = shows_all (db 2) (all-permutation ShowsOne rows (map triple_shown (db 2)) (IsPermutation-sym _ _ same) (shows_each rows cells.cells cells.rows_are cells.fit)) in
    let it = stored_for (db 2) (cells_typed (db 2) (sound.obeys.rules Datatype).1.1.0) rise.1 shows in
    let own : AllByRecursion (HasOwnKey (db 2)) (db 2) = own_keys version db (db 2) (sound.obeys.rules Unique).1.1.0 in
    let up = subst IsTable it.rows_are rise.0 in
    let apart = ascending_from [] it.stored up (subst (λ all. AllByRecursion (HasOwnKey all) all) it.rows_are own) in
    let shown : IsPermutation (map shown_cell it.stored) rows = subst (λ xs. IsPermutation xs rows) (ap (map triple_shown) it.rows_are ∙ shown_back it.stored) same in
    record {
      stored = it.stored;
      rows_are = it.rows_are;
      fit = it.fit;
      apart = apart;
      found = found_in rows it.stored shown it.fit apart;
    }
