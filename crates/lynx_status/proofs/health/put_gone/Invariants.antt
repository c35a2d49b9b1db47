use Rattle.std.proofs.Common.{◌≡◌, ◌++◌, take}
use Rattle.std.specs.String.{string_bytes}
use Rattle.lynx_status.specs.Health.{gone_lines}
use Rattle.lynx_status.proofs.health.put_gone.Given as goal

-- the lines of the servers so far
abbrev pub invariant-loop-copy : goal.invariant-loop-copy
invariant-loop-copy l =
    string_bytes l.text ≡ string_bytes l.initial.text ++ gone_lines (take l.copy-index l.copies)
