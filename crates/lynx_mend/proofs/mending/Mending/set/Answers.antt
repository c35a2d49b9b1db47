use Rattle.std.proofs.Common.{subst}
use Rattle.lynx_graph.specs.Acceptance.{IsAccepted}
use Rattle.lynx_mend.specs.Mended.{Mended}
use Rattle.lynx_mend.proofs.mending.Mending.set.Goals as goal

pub returns-clause-accepted : goal.returns-clause-accepted
returns-clause-accepted c =
    let P : Mended → Type 0 = λ mended. IsAccepted mended.set in
    subst P c.self.view_is c.set.ensures.accepted
