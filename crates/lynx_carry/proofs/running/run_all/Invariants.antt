use Rattle.std.proofs.Common.{◌≡◌}
use Rattle.lynx_carry.proofs.running.run_all.Given as goal

-- the set stays
abbrev pub invariant-loop-request : goal.invariant-loop-request
invariant-loop-request l = l.world.set ≡ l.fn.world.set
