use Rattle.std.proofs.Common.{length}
use Rattle.lynx_rules.proofs.checks.+are_for.Given as goal

abbrev pub decreases-are_for : goal.decreases-are_for
decreases-are_for l = length l.numbers.now
