-- What is taken of rows that may be damaged.
use Rattle.std.specs.Prelude.{◌≡◌, ◌<◌, ◌+◌, ◌^◌, ◌∷◌, [], ℕ, List, Some, length, pos, slice_get, take}
use Rattle.std.specs.List.{AllByRecursion}
use Rattle.sqlite_value.specs.declared.value.Value.TheVariants.{Int, Blob}
use Rattle.sqlite.specs.Order.{Row}
use Rattle.lynx_entry.specs.declared.entry.Entry.{Entry}
use Rattle.lynx_entry.specs.Entry.{History}
use Rattle.lynx_keep.specs.Stored.{encoding_of, HasEncoding}
use Rattle.lynx_sql.specs.declared.reading.StoredRows.{StoredRows}
use Rattle.lynx_sql.specs.Rows.{shown_entries}
use Rattle.lynx_store.specs.Stored.{Owner, ShowsTitle, bodies_of, title_for}

-- the row at the place is that of an entry there
pub record HasEntryAt (rows : List Row) (place : ℕ) : Type 0 where
  pub entry : Entry
  pub formed : HasEncoding entry
  pub there : slice_get rows place ≡ Some (Int (pos place) ∷ Blob (encoding_of entry) ∷ [])

-- The rows begin with those of these entries, and the next one is of no entry at its place; or it
-- is at the last place that 32 bits have.
pub record IsLongestShown (rows : List Row) (entries : History) : Type 0 where
  pub shown : take (length entries) rows ≡ shown_entries 0 (bodies_of entries)
  pub formed : AllByRecursion HasEncoding entries
  pub few : length entries < 2 ^ 32
  pub longest : HasEntryAt rows (length entries) → length entries + 1 ≡ 2 ^ 32

-- the rows are headed by this owner, and their first entries are these
pub record Salvages (rows : StoredRows) (owner : Owner) (entries : History) : Type 0 where
  pub title : ShowsTitle rows.title.items (title_for owner)
  pub longest : IsLongestShown rows.entries.items entries
