use Rattle.std.proofs.Common.{◌≡◌, ◌++◌, take}
use Rattle.std.specs.List.{flat_map}
use Rattle.lynx_show.specs.Finds.{hop_line}
use Rattle.lynx_show.proofs.finding.put_hop_at.Given as goal

-- the entries so far
abbrev pub invariant-loop-entry : goal.invariant-loop-entry
invariant-loop-entry l =
    l.text.items ≡ l.initial.text.items ++ flat_map (hop_line l.chain l.hop l.server) (take l.entry-index l.entries)
