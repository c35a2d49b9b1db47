use Rattle.std.proofs.Common.{◌≡◌, take}
use Rattle.lynx_show.specs.Finds.{done_lines}
use Rattle.lynx_show.proofs.finding.done_lines.Given as goal

-- the stores so far
abbrev pub invariant-loop-held : goal.invariant-loop-held
invariant-loop-held l = l.text.items ≡ done_lines l.chain l.hop (take l.held-index l.stores)
