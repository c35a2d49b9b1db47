use Rattle.std.proofs.Common.{◌≡◌, ◌++◌, drop}
use Rattle.std.specs.List.{filter_map}
use Rattle.lynx_chart.specs.Fates.{notice_of, notices_of}
use Rattle.lynx_chart.proofs.fates.notices_of.Given as goal

-- those so far and those of what is left are all
abbrev pub invariant-loop-outcome : goal.invariant-loop-outcome
invariant-loop-outcome l =
    l.notices.items ++ filter_map notice_of (drop l.outcome-index l.outcomes) ≡ notices_of l.outcomes
