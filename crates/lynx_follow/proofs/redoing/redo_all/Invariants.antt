use Rattle.std.proofs.Common.{◌≡◌, fold, take}
use Rattle.lynx_rules.specs.Tables.{after_entry}
use Rattle.lynx_follow.specs.Following.{Notes}
use Rattle.lynx_follow.proofs.redoing.redo_all.Given as goal

-- what the entries so far did is done again, and noted
abbrev pub invariant-loop-entry : goal.invariant-loop-entry
invariant-loop-entry l = record {
  cells : l.cells.database ≡ fold (after_entry l.set) l.fn.cells.database (take l.entry-index l.entries);
  noted : Notes l.fn.changes l.changes l.fn.cells.database l.cells.database;
}
