use Rattle.std.proofs.Common.{◌≡◌}
use Rattle.lynx_ask.specs.Asking.{has_hop_from, may_run}
use Rattle.std.specs.List.{list_any}
use Rattle.lynx_ask.proofs.reading.may_run.Given as goal

-- what the programs that are left say
abbrev pub invariant-loop-program : goal.invariant-loop-program
invariant-loop-program l =
    list_any (has_hop_from l.chain.origin l.hop) l.program-iterator ≡ may_run l.fn.set l.chain l.hop
