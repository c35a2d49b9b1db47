use Rattle.std.proofs.Common.{length}
use Rattle.lynx_rules.proofs.checks.+have_counts.Given as goal

abbrev pub decreases-have_counts : goal.decreases-have_counts
decreases-have_counts l = length l.results.now
