use Rattle.std.proofs.Common.{◌≡◌, ◌++◌, drop}
use Rattle.std.specs.List.{flat_map}
use Rattle.lynx_late.specs.Blocks.{late_from}
use Rattle.lynx_late.proofs.blocks.blocks_between.Given as goal

-- the blocks so far and those that are left are the whole
abbrev pub invariant-loop-entrance : goal.invariant-loop-entrance
invariant-loop-entrance l = l.blocks ++ flat_map (late_from l.set l.ends) (drop l.entrance-index l.ends) ≡ flat_map (late_from l.set l.ends) l.ends
