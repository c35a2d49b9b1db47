use Rattle.std.proofs.Common.{◌≡◌, drop}
use Rattle.lynx_cells.specs.Database.{Database, applied, written}
use Rattle.lynx_cells.specs.Triples.{entries_of}
use Rattle.lynx_resting.proofs.mirror.changes_to.Given as goal

-- the writes that are left, behind the changes so far, give all of them
abbrev pub invariant-loop-table : goal.invariant-loop-table
invariant-loop-table l = (db : Database) → written (entries_of (drop l.table-index l.writes)) (applied l.changes db) ≡ written (entries_of l.writes) db
