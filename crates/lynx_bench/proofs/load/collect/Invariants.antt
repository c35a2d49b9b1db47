use Rattle.std.proofs.Common.{length}
use Rattle.lynx_bench.proofs.load.collect.Given as goal

abbrev pub decreases-loop-payer : goal.decreases-loop-payer
decreases-loop-payer l = length l.payers.rest.items
