use Rattle.std.proofs.Common.{◌≡◌, filter}
use Rattle.std.specs.List.{range_with_len}
use Rattle.lynx_draw.specs.Shown.{shows}
use Rattle.lynx_draw.proofs.shown.shown_programs.Given as goal

-- those below the number that are drawn
abbrev pub invariant-loop-number : goal.invariant-loop-number
invariant-loop-number l = l.programs.items ≡ filter (shows l.shown l.verdict l.late) (range_with_len 0 l.number)
