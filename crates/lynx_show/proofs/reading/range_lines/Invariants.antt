use Rattle.std.proofs.Common.{◌≡◌, take}
use Rattle.lynx_show.specs.Reads.{range_lines}
use Rattle.lynx_show.proofs.reading.range_lines.Given as goal

-- the stores so far
abbrev pub invariant-loop-held : goal.invariant-loop-held
invariant-loop-held l = l.text.items ≡ range_lines l.set (take l.held-index l.stores) l.table l.range
