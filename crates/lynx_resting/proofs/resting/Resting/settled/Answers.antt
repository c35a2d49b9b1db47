use Rattle.std.proofs.Common.{[], subst}
use Rattle.lynx_server.specs.History.{IsLawfulHistory}
use Rattle.lynx_resting.specs.Resting.{RestingState, settled_front}
use Rattle.lynx_resting.proofs.Finding.{lawful_front}
use Rattle.lynx_resting.proofs.resting.Resting.settled.Goals as goal

pub returns-clause-lawful : goal.returns-clause-lawful
returns-clause-lawful g c =
    subst (λ (r : RestingState g.row.K.Denot). IsLawfulHistory r.here.set r.here.server (settled_front r)) c.self.view_is
    (lawful_front c.self.inside.server.set c.self.inside.server.server [] c.self.inside.server.history c.self.inside.settled c.history.ensures.lawful)
