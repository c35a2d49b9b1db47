use Rattle.std.proofs.Common.{◌≡◌, take}
use Rattle.lynx_restore.proofs.copying.copy_history.Given as goal

-- the entries so far are copied
abbrev pub invariant-loop-entry : goal.invariant-loop-entry
invariant-loop-entry l = l.copied.items ≡ take l.entry-index l.history
