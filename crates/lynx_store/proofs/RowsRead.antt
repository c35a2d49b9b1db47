-- Rows that were read, one after another.
use Rattle.std.proofs.Common.{◌≡◌, ◌⊎◌, inl, inr, ℕ, zero, suc, ◌+◌, ◌<◌, ◌≤◌, ◌^◌, pos, List, [], ◌∷◌, ◌++◌, length, map, take, get_or, slice_get, Some, refl, sym, ap, ◌∙◌, arith}
use Rattle.std.proofs.lemmas.Bool.{cases_lt}
use Rattle.std.proofs.lemmas.List.{take_more}
use Rattle.std.proofs.lemmas.Nat.{from_be_bytes-to_be_bytes_8}
use Rattle.std.specs.Int.{w64, from_be_bytes, to_be_bytes}
use Rattle.std.specs.List.{AllByRecursion}
use Rattle.sqlite_value.specs.declared.value.Value.TheVariants.{Int, Blob}
use Rattle.sqlite.specs.Order.{Row}
use Rattle.lynx_entry.specs.declared.entry.Entry.{Entry}
use Rattle.lynx_entry.specs.Entry.{History}
use Rattle.lynx_codec.specs.declared.item.Item.TheVariants as items
use Rattle.lynx_codec.proofs.Feeds.{no_encoding_begins_another}
use Rattle.lynx_keep.specs.Kept.{KeptState}
use Rattle.lynx_keep.specs.Stored.{encoding_of, HasEncoding}
use Rattle.lynx_keep.proofs.Keeping.{same_kept}
use Rattle.lynx_sql.specs.declared.reading.StoredRows.{StoredRows}
use Rattle.lynx_sql.specs.Rows.{shown_entries, shown_meta}
use Rattle.lynx_sql.specs.declared.version.StoreVersion.{StoreVersion}
use Rattle.lynx_sql.specs.declared.version.StoreVersion.TheVariants.{One, Two}
use Rattle.lynx_sql.specs.Reading.{ShowRows}
use Rattle.lynx_sql.specs.Shown.{AreCells, FitsRow, row_of, entry_in}
use Rattle.lynx_sql.specs.Contents.{Title}
use Rattle.lynx_store.specs.Salvages.{HasEntryAt, IsLongestShown}
use Rattle.lynx_store.specs.Stored.{bodies_of, contents_of, title_for, version_text, IsOfNoVersion, IsOfOtherSet, IsOfOtherVersion, Owner, ShowsTitle, Tells}
use Rattle.lynx_store.proofs.Kept.{bodies-append, length-bodies}
use Rattle.lynx_store.proofs.Told.{as_many}

pub take_whole : {A : Type 0} (xs : List A) (i : ℕ) → length xs ≤ i → take i xs ≡ xs
take_whole [] zero h = refl
take_whole [] (suc i) h = refl
take_whole (x ∷ xs) zero h = absurd (omega arith)
take_whole (x ∷ xs) (suc i) h = ap (λ ys. x ∷ ys) (take_whole xs i (omega arith))

-- one more row
pub take_next : {A : Type 0} (xs : List A) (i : ℕ) (x : A) → i < length xs → x ≡ get_or xs i x → take (i + 1) xs ≡ take i xs ++ x ∷ []
take_next xs i x low is = take_more xs i x low ∙ ap (λ y. take i xs ++ y ∷ []) (sym is)

shown-append : (place : ℕ) (bodies : List (List ℕ)) (body : List ℕ) (at : ℕ) → at ≡ place + length bodies
    → shown_entries place bodies ++ (Int (pos at) ∷ Blob body ∷ []) ∷ [] ≡ shown_entries place (bodies ++ body ∷ [])
shown-append place [] body at is = ap (λ n. (Int (pos n) ∷ Blob body ∷ []) ∷ []) (omega arith)
shown-append place (b ∷ bodies) body at is = ap (λ rows. (Int (pos place) ∷ Blob b ∷ []) ∷ rows) (shown-append (place + 1) bodies body at (omega arith))

-- one more entry
pub shown_more : (entries : History) (entry : Entry) (row : Row) (at : ℕ) → at ≡ length entries → row ≡ Int (pos at) ∷ Blob (encoding_of entry) ∷ []
    → shown_entries 0 (bodies_of entries) ++ row ∷ [] ≡ shown_entries 0 (bodies_of (entries ++ entry ∷ []))
shown_more entries entry row at is same =
    ap (λ r. shown_entries 0 (bodies_of entries) ++ r ∷ []) same
    ∙ shown-append 0 (bodies_of entries) (encoding_of entry) at (omega (arith, is, length-bodies entries))
    ∙ ap (shown_entries 0) (bodies-append entries entry)

-- the rows that the entries so far show
pub shown_so_far : (rows : List Row) (entries : History) (index : ℕ) → length entries ≡ index → take index rows ≡ shown_entries 0 (bodies_of entries)
    → take (length entries) rows ≡ shown_entries 0 (bodies_of entries)
shown_so_far rows entries index counted shown = ap (λ n. take n rows) counted ∙ shown

rows-append : (cells : List (ℕ × ℕ × ℕ)) (cell : ℕ × ℕ × ℕ) → map row_of cells ++ row_of cell ∷ [] ≡ map row_of (cells ++ cell ∷ [])
rows-append [] cell = refl
rows-append (c ∷ cells) cell = ap (λ rows. row_of c ∷ rows) (rows-append cells cell)

fits-append : (cells : List (ℕ × ℕ × ℕ)) (cell : ℕ × ℕ × ℕ) → AllByRecursion FitsRow cells → FitsRow cell → AllByRecursion FitsRow (cells ++ cell ∷ [])
fits-append [] cell all fits = (fits, tt)
fits-append (c ∷ cells) cell all fits = (all.0, fits-append cells cell all.1 fits)

pub no_cells : AreCells []
no_cells = record { cells = []; rows_are = refl; fit = tt }

-- one more cell
pub cells_more : (rows : List Row) (row : Row) (cell : ℕ × ℕ × ℕ) → AreCells rows → row ≡ row_of cell → FitsRow cell → AreCells (rows ++ row ∷ [])
cells_more rows row cell are is fits = record {
  cells = are.cells ++ cell ∷ [];
  rows_are = ap (λ rs. rs ++ row ∷ []) are.rows_are ∙ ap (λ r. map row_of are.cells ++ r ∷ []) is ∙ rows-append are.cells cell;
  fit = fits-append are.cells cell are.fit fits;
}

pub told_by : (row : Row) (cell : ℕ × ℕ × ℕ) → row ≡ row_of cell → FitsRow cell → ◌≡◌ {A = (ℕ × ℕ) × ℕ} ((cell.0, cell.1), cell.2) (entry_in row)
told_by row cell is fits =
    let first : ◌≡◌ {A = (ℕ × ℕ) × ℕ} (entry_in (row_of cell)) ((cell.0, cell.1), cell.2) =
    ap (λ k. let e : (ℕ × ℕ) × ℕ = ((cell.0, k), from_be_bytes w64 (to_be_bytes w64 cell.2)) in e) (from_be_bytes-to_be_bytes_8 cell.1 fits.key)
    ∙ ap (λ v. let e : (ℕ × ℕ) × ℕ = ((cell.0, cell.1), v) in e) (from_be_bytes-to_be_bytes_8 cell.2 fits.value) in
    sym (ap entry_in is ∙ first)

-- ---- rows that show two states

same_bodies : (place : ℕ) (ours theirs : List (List ℕ)) → shown_entries place ours ≡ shown_entries place theirs → ours ≡ theirs
same_bodies place [] [] same = refl
same_bodies place [] (b ∷ others) same = absurd (let e = same in cc)
same_bodies place (a ∷ more) [] same = absurd (let e = same in cc)
same_bodies place (a ∷ more) (b ∷ others) same =
    let here : a ≡ b = cc in
    let rest : shown_entries (place + 1) more ≡ shown_entries (place + 1) others = cc in
    ap (λ x. x ∷ more) here ∙ ap (λ xs. b ∷ xs) (same_bodies (place + 1) more others rest)

same_entry : (a b : Entry) → HasEncoding a → HasEncoding b → encoding_of a ≡ encoding_of b → a ≡ b
same_entry a b formed other same =
    let both = (no_encoding_begins_another (items.Entry a) (items.Entry b) [] [] formed other (ap (λ bytes. bytes ++ []) same)).0 in cc

same_entries : (ours theirs : History) → AllByRecursion HasEncoding ours → AllByRecursion HasEncoding theirs → bodies_of ours ≡ bodies_of theirs → ours ≡ theirs
same_entries [] [] formed others same = refl
same_entries [] (b ∷ theirs) formed others same = absurd (let e = same in cc)
same_entries (a ∷ ours) [] formed others same = absurd (let e = same in cc)
same_entries (a ∷ ours) (b ∷ theirs) formed others same =
    let here : encoding_of a ≡ encoding_of b = cc in
    let rest : bodies_of ours ≡ bodies_of theirs = cc in
    ap (λ x. x ∷ ours) (same_entry a b formed.0 others.0 here) ∙ ap (λ xs. b ∷ xs) (same_entries ours theirs formed.1 others.1 rest)

-- rows of entries that have encodings are those of one list
pub same_shown : (rows : List Row) (ours theirs : History) → AllByRecursion HasEncoding ours → AllByRecursion HasEncoding theirs
    → rows ≡ shown_entries 0 (bodies_of ours) → rows ≡ shown_entries 0 (bodies_of theirs) → ours ≡ theirs
same_shown rows ours theirs formed others shown other = same_entries ours theirs formed others (same_bodies 0 _ _ (sym shown ∙ other))

-- rows tell one state
pub one_state : (rows : StoredRows) (owner : Owner) (ours theirs : KeptState) → AllByRecursion HasEncoding ours.entries → ShowRows rows (contents_of owner ours)
    → Tells rows owner theirs → ours ≡ theirs
one_state rows owner ours theirs formed shown tells =
    let entries : ours.entries ≡ theirs.entries =
    same_entries ours.entries theirs.entries formed tells.formed (same_bodies 0 _ _ (sym shown.entries ∙ tells.shown.entries)) in
    same_kept ours.entries theirs.entries ours.cells theirs.cells entries (sym shown.cells ∙ tells.shown.cells)

-- rows that show entries go on with one behind any fewer
more_at : (place : ℕ) (entries : History) (count : ℕ) → AllByRecursion HasEncoding entries → count < length entries
    → (entry : Entry) × HasEncoding entry × (slice_get (shown_entries place (bodies_of entries)) count ≡ Some (Int (pos (place + count)) ∷ Blob (encoding_of entry) ∷ []))
more_at place [] count formed low = absurd (omega (arith, low))
more_at place (e ∷ entries) zero formed low = (e, formed.0, ap (λ n. Some (Int (pos n) ∷ Blob (encoding_of e) ∷ [])) (let n : place ≡ place + 0 = omega arith in n))
more_at place (e ∷ entries) (suc count) formed low =
    let more = more_at (place + 1) entries count formed.1 (omega (arith, low)) in
    (more.0, more.1, more.2 ∙ ap (λ n. Some (Int (pos n) ∷ Blob (encoding_of more.0) ∷ [])) (let n : (place + 1) + count ≡ place + suc count = omega arith in n))

-- of rows that show these entries, all of them are the longest front
pub all_shown : (rows : List Row) (entries found : History) → AllByRecursion HasEncoding entries → length entries < 2 ^ 32
    → rows ≡ shown_entries 0 (bodies_of entries) → IsLongestShown rows found → entries ≡ found
all_shown rows entries found formed few shown longest =
    let many : length rows ≡ length entries = ap length shown ∙ as_many 0 entries in
    elim (cases_lt (length found) (length entries)) [
      | inl fewer ↦
          let more = more_at 0 entries (length found) formed fewer in
          let same : 0 + length found ≡ length found = omega arith in
          let on : HasEntryAt rows (length found) = record {
            entry = more.0;
            formed = more.1;
            there = ap (λ all. slice_get all (length found)) shown ∙ more.2 ∙ ap (λ n. Some (Int (pos n) ∷ Blob (encoding_of more.0) ∷ [])) same;
          } in
          absurd (omega (arith, longest.longest on, few, fewer))
      | inr past ↦
          same_shown rows entries found formed longest.formed shown
          (sym (take_whole rows (length found) (omega (arith, many, past))) ∙ longest.shown)
    ]

one_version : (a b : StoreVersion) → version_text a ≡ version_text b → a ≡ b
one_version One One same = refl
one_version Two Two same = refl
one_version One Two same = let last : 49 ≡ 50 = ap (λ text. get_or text 11 0) same in absurd (omega (arith, last))
one_version Two One same = let last : 50 ≡ 49 = ap (λ text. get_or text 11 0) same in absurd (omega (arith, last))

one_title : (owner other : Owner) → shown_meta (title_for owner) ≡ shown_meta (title_for other) → owner ≡ other
one_title owner other same =
    let texts : version_text owner.version ≡ version_text other.version = let e = same in cc in
    let version : owner.version ≡ other.version = one_version owner.version other.version texts in
    let server : owner.server ≡ other.server = let e = same in cc in
    let set : owner.set ≡ other.set = let e = same in cc in
    λ i. record { version = version i; server = server i; set = set i }

-- a heading is of one owner
pub one_heading : (rows : List Row) (owner other : Owner) → ShowsTitle rows (title_for owner) → ShowsTitle rows (title_for other) → owner ≡ other
one_heading rows owner other shown tells = one_title owner other (sym shown ∙ tells)

-- rows tell one owner
pub one_owner : (rows : StoredRows) (owner other : Owner) (ours theirs : KeptState) → ShowRows rows (contents_of owner ours)
    → ShowRows rows (contents_of other theirs) → owner ≡ other
one_owner rows owner other ours theirs shown tells = one_title owner other (sym shown.title ∙ tells.title)

-- ---- titles

pub one_shown : (title other : Title) → shown_meta title ≡ shown_meta other → title ≡ other
one_shown title other same =
    let version : title.version ≡ other.version = let e = same in cc in
    let server : title.server ≡ other.server = let e = same in cc in
    let set : title.set ≡ other.set = let e = same in cc in
    λ i. record { version = version i; server = server i; set = set i }

-- rows that show an owner's title show no other
pub shows_no_other : (rows : List Row) (owner : Owner) → ShowsTitle rows (title_for owner) → IsOfOtherVersion (ShowsTitle rows) owner ⊎ IsOfOtherSet (ShowsTitle rows) owner → ⊥
shows_no_other rows owner shows (inl other) =
    let same = one_shown other.0 (title_for owner) (sym other.1 ∙ shows) in
    other.2 (ap (λ title. title.version) same)
shows_no_other rows owner shows (inr other) =
    let same = one_shown other.0 (title_for owner) (sym other.1 ∙ shows) in
    elim other.3 [ inl apart ↦ apart (ap (λ title. title.server) same) | inr apart ↦ apart (ap (λ title. title.set) same) ]

-- nor one of no version
pub shows_a_version : (rows : List Row) (owner : Owner) → ShowsTitle rows (title_for owner) → IsOfNoVersion (ShowsTitle rows) → ⊥
shows_a_version rows owner shows other =
    let same = one_shown other.0 (title_for owner) (sym other.1 ∙ shows) in
    other.2 owner.version (ap (λ title. title.version) same)
