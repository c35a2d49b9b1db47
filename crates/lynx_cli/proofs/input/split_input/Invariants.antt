use Rattle.std.proofs.Common.{length}
use Rattle.lynx_cli.proofs.InputLemmas.{HasRead}
use Rattle.lynx_cli.proofs.input.split_input.Given as goal

abbrev pub invariant-loop-line : goal.invariant-loop-line
invariant-loop-line l = HasRead l.input l.read l.rest

abbrev pub decreases-loop-line : goal.decreases-loop-line
decreases-loop-line l = length l.rest
