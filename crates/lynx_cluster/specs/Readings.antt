-- A reader without a session gets cells of one server, all of one moment.
use Rattle.std.specs.Prelude.{◌≡◌, ℕ, take}
use Rattle.lynx_cells.specs.Ranges.{cells_between}
use Rattle.lynx_cluster.specs.declared.reading.CellsRead.{CellsRead}
use Rattle.lynx_entry.specs.Entry.{History}
use Rattle.lynx_rules.specs.Tables.{clock_of, tables_of}
use Rattle.lynx_server.specs.History.{IsLawfulHistory}
use Rattle.lynx_set.specs.Set.{Set}

-- These are the cells of the table between the two keys, so many at most, that a history leaves,
-- and this is the stamp of its last entry.
pub record ReadsHistory (set : Set) (history : History) (table first last most : ℕ)
    (read : CellsRead) : Type 0 where
  pub stamp : read.stamp ≡ clock_of history
  pub cells : read.cells.items ≡ take most (cells_between table first last (tables_of set history))

-- So they were at some moment: there is a history of that server that left them.
pub record IsRead (set : Set) (server table first last most : ℕ) (read : CellsRead) : Type 0 where
  pub history : History
  pub lawful : IsLawfulHistory set server history
  pub reads : ReadsHistory set history table first last most read
