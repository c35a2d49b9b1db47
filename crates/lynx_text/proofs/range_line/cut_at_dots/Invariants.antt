use Rattle.std.proofs.Common.{◌≡◌, drop}
use Rattle.lynx_text.specs.Ranges.{cut_at_dots}
use Rattle.lynx_text.proofs.Dots.{cut_on}
use Rattle.lynx_text.proofs.range_line.cut_at_dots.Given as goal

-- what is left decides
abbrev pub invariant-loop-place : goal.invariant-loop-place
invariant-loop-place l = cut_on l.word l.place (drop l.place l.word) ≡ cut_at_dots l.word
