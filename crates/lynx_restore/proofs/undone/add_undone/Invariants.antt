use Rattle.std.proofs.Common.{◌≡◌, ◌++◌, take}
use Rattle.lynx_restore.specs.Undone.{undone_in}
use Rattle.lynx_restore.proofs.undone.add_undone.Given as goal

-- the requests of the entries so far are added
abbrev pub invariant-loop-entry : goal.invariant-loop-entry
invariant-loop-entry l = l.undone.items ≡ l.fn.undone.items ++ undone_in l.server (take l.entry-index l.entries)
