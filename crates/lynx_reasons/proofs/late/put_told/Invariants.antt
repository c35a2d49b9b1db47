use Rattle.std.proofs.Common.{◌≡◌}
use Rattle.lynx_reasons.proofs.late.put_told.Given as goal

-- nothing is written before the hop is found
abbrev pub invariant-loop-told : goal.invariant-loop-told
invariant-loop-told l = l.out.items ≡ l.fn.out.items
