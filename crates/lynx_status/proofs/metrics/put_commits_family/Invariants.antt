use Rattle.std.proofs.Common.{◌≡◌, ◌++◌, take}
use Rattle.std.specs.List.{flat_map}
use Rattle.std.specs.String.{string_bytes}
use Rattle.lynx_status.specs.Histograms.{commits_lines}
use Rattle.lynx_status.proofs.metrics.put_commits_family.Given as goal

-- the lines of the servers so far
abbrev pub invariant-loop-server : goal.invariant-loop-server
invariant-loop-server l =
    string_bytes l.text ≡ string_bytes l.initial.text ++ flat_map commits_lines (take l.server-index l.servers)
