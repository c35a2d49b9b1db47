use Rattle.std.proofs.Common.{◌≡◌, take}
use Rattle.lynx_status.specs.Records.{owed_hops}
use Rattle.lynx_status.proofs.records.owed_hops.Given as goal

-- those of the hops so far
abbrev pub invariant-loop-hop : goal.invariant-loop-hop
invariant-loop-hop l = l.owed.items ≡ owed_hops (take l.hop-index l.hops)
