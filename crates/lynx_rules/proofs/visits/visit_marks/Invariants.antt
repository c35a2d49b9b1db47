use Rattle.std.proofs.Common.{◌≡◌, length, take}
use Rattle.lynx_names.specs.declared.limits.TheConstants.{MAX_SERVERS}
use Rattle.lynx_rules.specs.Visits.{MarksVisits}
use Rattle.lynx_rules.proofs.visits.visit_marks.Given as goal

-- the servers of the hops so far are marked
abbrev pub invariant-loop-hop : goal.invariant-loop-hop
invariant-loop-hop l = MarksVisits (take l.hop-index l.hops) l.marks × (length l.marks ≡ MAX_SERVERS)
