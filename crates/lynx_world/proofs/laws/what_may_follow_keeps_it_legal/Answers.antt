use Rattle.lynx_world.proofs.LegalSteps.{legal-push}
use Rattle.lynx_world.proofs.laws.what_may_follow_keeps_it_legal.Goals as goal

pub returns : goal.returns
returns c = legal-push
