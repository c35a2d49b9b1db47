use Rattle.std.proofs.Common.{◌≡◌}
use Rattle.lynx_carry.proofs.running.deliver_all.Given as goal

-- the set stays
abbrev pub invariant-loop-hop : goal.invariant-loop-hop
invariant-loop-hop l = l.world.set ≡ l.fn.world.set
