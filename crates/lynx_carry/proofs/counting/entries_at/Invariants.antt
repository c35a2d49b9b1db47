use Rattle.std.proofs.Common.{◌≡◌, take}
use Rattle.lynx_carry.specs.Counts.{entries_at}
use Rattle.lynx_carry.proofs.counting.entries_at.Given as goal

-- the entries of the chains so far
abbrev pub invariant-loop-request : goal.invariant-loop-request
invariant-loop-request l = l.entries ≡ entries_at l.set (take l.request-index l.requests) l.server
