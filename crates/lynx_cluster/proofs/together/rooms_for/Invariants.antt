use Rattle.std.proofs.Common.{◌≡◌, length}
use Rattle.lynx_cluster.proofs.together.rooms_for.Given as goal

abbrev pub invariant-loop : goal.invariant-loop
invariant-loop l = length l.rooms.items ≡ l.counter
