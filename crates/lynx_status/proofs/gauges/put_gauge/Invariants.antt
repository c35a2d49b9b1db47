use Rattle.std.proofs.Common.{◌≡◌, ◌++◌, take}
use Rattle.std.specs.List.{flat_map}
use Rattle.std.specs.String.{string_bytes}
use Rattle.lynx_status.specs.Families.{gauge_line}
use Rattle.lynx_status.proofs.gauges.put_gauge.Given as goal

-- the lines of the servers so far
abbrev pub invariant-loop-server : goal.invariant-loop-server
invariant-loop-server l =
    string_bytes l.text ≡ string_bytes l.initial.text ++ flat_map (gauge_line l.gauge) (take l.server-index l.servers)
