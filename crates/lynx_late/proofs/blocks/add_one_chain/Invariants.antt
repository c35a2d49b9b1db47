use Rattle.std.proofs.Common.{◌≡◌, ◌++◌, drop, filter, map}
use Rattle.lynx_late.specs.Blocks.{is_before, one_chain}
use Rattle.lynx_late.proofs.blocks.add_one_chain.Given as goal

-- the blocks so far and those that are left are the whole
abbrev pub invariant-loop-exit : goal.invariant-loop-exit
invariant-loop-exit l =
    l.blocks ++ map (one_chain l.entrance) (filter (is_before l.entrance) (drop l.exit-index l.ends))
    ≡ l.fn.blocks ++ map (one_chain l.entrance) (filter (is_before l.entrance) l.ends)
