use Rattle.std.proofs.Common.{◌≡◌, ◌++◌, take}
use Rattle.std.specs.String.{string_bytes}
use Rattle.lynx_status.specs.Health.{stopped_lines}
use Rattle.lynx_status.proofs.health.put_stopped.Given as goal

-- the lines of the servers so far
abbrev pub invariant-loop-server : goal.invariant-loop-server
invariant-loop-server l =
    string_bytes l.text ≡ string_bytes l.initial.text ++ stopped_lines (take l.server-index l.servers)
