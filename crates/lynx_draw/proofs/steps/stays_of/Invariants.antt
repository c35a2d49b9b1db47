use Rattle.std.proofs.Common.{◌≡◌, ◌++◌, drop, take}
use Rattle.lynx_draw.specs.Steps.{stays_after, stays_of}
use Rattle.lynx_draw.proofs.steps.stays_of.Given as goal

-- the visits so far and those that are left are the whole
abbrev pub invariant-loop-number : goal.invariant-loop-number
invariant-loop-number l = l.stays ++ stays_after l.edges (take l.number l.walk) (drop l.number l.walk) ≡ stays_of l.edges l.walk
