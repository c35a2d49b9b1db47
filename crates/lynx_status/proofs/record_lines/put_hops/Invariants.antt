use Rattle.std.proofs.Common.{◌≡◌, ◌++◌, take}
use Rattle.std.specs.List.{flat_map}
use Rattle.lynx_status.specs.RecordLines.{hop_line}
use Rattle.lynx_status.proofs.record_lines.put_hops.Given as goal

-- the hops so far have their lines
abbrev pub invariant-loop-hop : goal.invariant-loop-hop
invariant-loop-hop l =
    l.text.items ≡ l.initial.text.items ++ flat_map (hop_line l.chain) (take l.hop-index l.hops)
