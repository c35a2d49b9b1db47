use Rattle.std.proofs.Common.{◌≡◌, fold, take}
use Rattle.lynx_rules.specs.Tables.{after_entry}
use Rattle.lynx_resting.proofs.mirror.redo.Given as goal

-- what the entries so far did is done to the cells
abbrev pub invariant-loop-entry : goal.invariant-loop-entry
invariant-loop-entry l = l.cells.database ≡ fold (after_entry l.set) l.fn.cells.database (take l.entry-index l.entries)
