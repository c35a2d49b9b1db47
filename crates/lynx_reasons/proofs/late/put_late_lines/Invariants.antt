use Rattle.std.proofs.Common.{◌≡◌, ◌++◌, drop}
use Rattle.std.specs.List.{flat_map}
use Rattle.lynx_late.specs.Blocks.{late_blocks}
use Rattle.lynx_reasons.specs.Late.{late_text}
use Rattle.lynx_reasons.proofs.late.put_late_lines.Given as goal

-- what is written and what is left are the whole
abbrev pub invariant-loop-block : goal.invariant-loop-block
invariant-loop-block l =
    l.out.items ++ flat_map (late_text l.set) (drop l.block-index (late_blocks l.set))
    ≡ l.fn.out.items ++ flat_map (late_text l.set) (late_blocks l.set)
