use Rattle.std.proofs.Common.{◌≡◌, take, length}
use Rattle.std.specs.List.{AllByRecursion}
use Rattle.lynx_keep.specs.Stored.{HasEncoding}
use Rattle.lynx_sql.specs.Rows.{shown_entries}
use Rattle.lynx_store.specs.Stored.{bodies_of}
use Rattle.lynx_store.proofs.loading.entries_of.Given as goal

-- the entries of the rows so far
abbrev pub invariant-loop-row : goal.invariant-loop-row
invariant-loop-row l = record {
  place : l.place ≡ l.row-index;
  counted : length l.entries.items ≡ l.row-index;
  shown : take l.row-index l.rows ≡ shown_entries 0 (bodies_of l.entries.items);
  formed : AllByRecursion HasEncoding l.entries.items;
}
