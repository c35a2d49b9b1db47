use Rattle.std.specs.Prelude.{All}
use Rattle.lynx_reasons.specs.inner.Sifts.{IsEnd}
use Rattle.lynx_reasons.proofs.sift.ends_of.Given as goal

abbrev pub invariant-loop-place : goal.invariant-loop-place
invariant-loop-place l = All (IsEnd l.set) l.ends.items
