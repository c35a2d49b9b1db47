use Rattle.std.proofs.Common.{◌≡◌, drop}
use Rattle.lynx_check.specs.inner.Tracing.{first_step}
use Rattle.lynx_check.proofs.tracing.first_step.Given as goal

-- none of the exits so far has a marked arrival after it
abbrev pub invariant-loop-exit : goal.invariant-loop-exit
invariant-loop-exit l = first_step l.nodes l.start l.table l.here l.arrival (drop l.exit-index l.exits) ≡ first_step l.nodes l.start l.table l.here l.arrival l.exits
