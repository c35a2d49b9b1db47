-- What rows and bodies are where they tell something.
use Rattle.std.proofs.Common.{◌≡◌, ℕ, zero, suc, ◌+◌, ◌<◌, pos, List, [], ◌∷◌, ◌++◌, length, map, get_or, slice_get, Option, Some, refl, sym, ap, subst, ◌∙◌, arith, append-nil}
use Rattle.std.proofs.lemmas.Option.{slice_get-get_or}
use Rattle.std.specs.List.{AllByRecursion}
use Rattle.sqlite_value.specs.declared.value.Value.TheVariants.{Int, Blob}
use Rattle.sqlite.specs.Order.{Row}
use Rattle.lynx_entry.specs.declared.entry.Entry.{Entry}
use Rattle.lynx_entry.specs.Entry.{History}
use Rattle.lynx_keep.specs.Stored.{encoding_of, HasEncoding}
use Rattle.lynx_sql.specs.Rows.{shown_entries}
use Rattle.lynx_sql.specs.Shown.{AreCells, FitsRow, row_of}
use Rattle.lynx_store.specs.Salvages.{HasEntryAt}
use Rattle.lynx_store.specs.Stored.{bodies_of}

-- the encoding of an entry, with nothing behind it
pub whole_encoding : (found : Option Entry) (body : List ℕ)
    → ((entry : Entry) (more : List ℕ) → HasEncoding entry → body ≡ encoding_of entry ++ more → found ≡ Some entry)
    → (entry : Entry) → HasEncoding entry → body ≡ encoding_of entry → found ≡ Some entry
whole_encoding found body only entry formed is = only entry [] formed (is ∙ sym (append-nil (encoding_of entry)))

pub as_many : (place : ℕ) (entries : History) → length (shown_entries place (bodies_of entries)) ≡ length entries
as_many place [] = refl
as_many place (e ∷ entries) = ap suc (as_many (place + 1) entries)

-- the row at a place is that of an entry
pub record IsEntryRow (row : Row) (place : ℕ) : Type 0 where
  pub entry : Entry
  pub formed : HasEncoding entry
  pub is : row ≡ Int (pos place) ∷ Blob (encoding_of entry) ∷ []

row_from : (place : ℕ) (entries : History) (i : ℕ) (row : Row) → AllByRecursion HasEncoding entries → i < length entries
    → row ≡ get_or (shown_entries place (bodies_of entries)) i row → IsEntryRow row (place + i)
row_from place [] i row formed low is = absurd (omega arith)
row_from place (e ∷ entries) zero row formed low is =
    record { entry = e; formed = formed.0; is = is ∙ ap (λ n. Int (pos n) ∷ Blob (encoding_of e) ∷ []) (let n : place ≡ place + 0 = omega arith in n) }
row_from place (e ∷ entries) (suc i) row formed low is =
    let same : (place + 1) + i ≡ place + suc i = omega arith in
    subst (IsEntryRow row) same (row_from (place + 1) entries i row formed.1 (omega (arith, low)) is)

pub row_at : (rows : List Row) (entries : History) (i : ℕ) (row : Row) → rows ≡ shown_entries 0 (bodies_of entries) → AllByRecursion HasEncoding entries
    → i < length rows → row ≡ get_or rows i row → IsEntryRow row i
row_at rows entries i row shown formed low is =
    let many : length rows ≡ length entries = ap length shown ∙ as_many 0 entries in
    let same : 0 + i ≡ i = omega arith in
    subst (IsEntryRow row) same (row_from 0 entries i row formed (omega (arith, many, low)) (is ∙ ap (λ all. get_or all i row) shown))

-- a row that isn't that of an entry at the place
pub no_entry_at : (rows : List Row) (index place count : ℕ) (row : Row) → place ≡ index → count ≡ index → index < length rows → row ≡ get_or rows index row
    → ((entry : Entry) → HasEncoding entry → row ≡ Int (pos place) ∷ Blob (encoding_of entry) ∷ [] → ⊥) → HasEntryAt rows count → ⊥
no_entry_at rows index place count row at counted low is none on =
    let here : slice_get rows index ≡ Some row = slice_get-get_or rows index row low ∙ ap Some (sym is) in
    let there : slice_get rows index ≡ Some (Int (pos count) ∷ Blob (encoding_of on.entry) ∷ []) = ap (slice_get rows) (sym counted) ∙ on.there in
    let both : Some row ≡ Some (Int (pos count) ∷ Blob (encoding_of on.entry) ∷ []) = sym here ∙ there in
    let same : row ≡ Int (pos count) ∷ Blob (encoding_of on.entry) ∷ [] = cc in
    let places : count ≡ place = counted ∙ sym at in
    none on.entry on.formed (same ∙ ap (λ n. Int (pos n) ∷ Blob (encoding_of on.entry) ∷ []) places)

-- a row among those of cells is that of a cell
pub record IsCellRow (row : Row) : Type 0 where
  pub cell : ℕ × ℕ × ℕ
  pub fits : FitsRow cell
  pub is : row ≡ row_of cell

cell_from : (cells : List (ℕ × ℕ × ℕ)) (i : ℕ) (row : Row) → AllByRecursion FitsRow cells → i < length (map row_of cells)
    → row ≡ get_or (map row_of cells) i row → IsCellRow row
cell_from [] i row fit low is = absurd (omega arith)
cell_from (c ∷ cells) zero row fit low is = record { cell = c; fits = fit.0; is = is }
cell_from (c ∷ cells) (suc i) row fit low is = cell_from cells i row fit.1 (omega (arith, low)) is

pub cell_at : (rows : List Row) (i : ℕ) (row : Row) → AreCells rows → i < length rows → row ≡ get_or rows i row → IsCellRow row
cell_at rows i row are low is =
    let many = ap length are.rows_are in
    cell_from are.cells i row are.fit (omega (arith, many, low)) (is ∙ ap (λ all. get_or all i row) are.rows_are)
