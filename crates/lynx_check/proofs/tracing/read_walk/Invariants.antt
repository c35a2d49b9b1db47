use Rattle.std.proofs.Common.{◌<◌, length}
use Rattle.lynx_check.proofs.Levels.{Reads}
use Rattle.lynx_check.proofs.tracing.read_walk.Given as goal

abbrev pub invariant-loop-level : goal.invariant-loop-level
invariant-loop-level l = (l.level < length l.levels) × (l.arrival.node < length l.nodes) × Reads l.nodes l.start l.visits.items l.level l.arrival

abbrev pub decreases-loop-level : goal.decreases-loop-level
decreases-loop-level l = l.level
