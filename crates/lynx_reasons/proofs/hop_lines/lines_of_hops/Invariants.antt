use Rattle.std.proofs.Common.{◌≡◌, ◌+◌, drop}
use Rattle.std.specs.Prelude.{sum_by}
use Rattle.lynx_reasons.specs.inner.Counts.{lines_of_hop}
use Rattle.lynx_reasons.proofs.hop_lines.lines_of_hops.Given as goal

-- the lines so far and those of the hops that are left are all
abbrev pub invariant-loop-hop : goal.invariant-loop-hop
invariant-loop-hop l = l.lines + sum_by lines_of_hop (drop l.hop-index l.hops) ≡ sum_by lines_of_hop l.hops
