use Rattle.lynx_cluster.proofs.Absences.{AreMarkedBelow}
use Rattle.lynx_cluster.proofs.absent.mark_all.Given as goal

abbrev pub invariant-loop-session : goal.invariant-loop-session
invariant-loop-session l = AreMarkedBelow l.sessions l.session-index l.initial.is_here.items l.is_here.items
