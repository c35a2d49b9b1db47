use Rattle.std.proofs.Common.{◌≡◌, ◌++◌, drop, filter, map}
use Rattle.lynx_late.specs.Blocks.{has_not_come, two_chains}
use Rattle.lynx_late.proofs.blocks.add_two_chains.Given as goal

-- the blocks so far and those that are left are the whole
abbrev pub invariant-loop-exit : goal.invariant-loop-exit
invariant-loop-exit l =
    l.blocks ++ map (two_chains l.entrance) (filter (has_not_come l.set l.entrance) (drop l.exit-index l.ends))
    ≡ l.fn.blocks ++ map (two_chains l.entrance) (filter (has_not_come l.set l.entrance) l.ends)
