use Rattle.std.proofs.Common.{◌≡◌, drop}
use Rattle.lynx_cells.specs.Database.{Database, applied, written}
use Rattle.lynx_cells.specs.Triples.{entries_of}
use Rattle.lynx_follow.proofs.redoing.note.Given as goal

-- the changes that are left, written behind those that are noted, give all of them
abbrev pub invariant-loop-table : goal.invariant-loop-table
invariant-loop-table l =
    (db : Database) → written (entries_of (drop l.table-index l.table-items)) (applied l.changes db)
    ≡ written (entries_of l.table-items) (applied l.fn.changes db)
