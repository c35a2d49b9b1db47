use Rattle.std.proofs.Common.{◌≡◌, take}
use Rattle.lynx_restore.specs.Lines.{restored_lines}
use Rattle.lynx_restore.proofs.telling.restored_lines.Given as goal

-- the servers so far have their lines
abbrev pub invariant-loop-server : goal.invariant-loop-server
invariant-loop-server l = l.text.items ≡ restored_lines (take l.server-index l.restored)
