use Rattle.std.proofs.Common.{◌≡◌, ◌≤◌, ◌*◌, ◌^◌, sum, take}
use Rattle.lynx_status.proofs.timing.total.Given as goal

-- the sum so far, which fits
abbrev pub invariant-loop-count : goal.invariant-loop-count
invariant-loop-count l = (l.total ≡ sum (take l.count-index l.counts)) × (l.total ≤ l.count-index * 2 ^ 64)
