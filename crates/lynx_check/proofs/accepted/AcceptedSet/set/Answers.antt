use Rattle.std.proofs.Common.{subst}
use Rattle.lynx_check.specs.Reasons.{Accepted}
use Rattle.lynx_graph.specs.Acceptance.{IsAccepted}
use Rattle.lynx_check.proofs.Accepting.{accepted_from_excuse}
use Rattle.lynx_check.proofs.accepted.AcceptedSet.set.Goals as goal

pub returns-clause-accepted : goal.returns-clause-accepted
returns-clause-accepted c = subst (λ (own : Accepted). IsAccepted own.set) c.self.view_is (accepted_from_excuse _ _ c.self.invariant)
